use Rattle.sheet.specs.Sheets.{text_in}
use Rattle.std.proofs.Common.{◌++◌, vec_items, ap, ◌∙◌}
use Rattle.std.proofs.lemmas.List.{take_all, take_more, flat_map_more}
use Rattle.answer.specs.Reports.{name_line, names_text}
use Rattle.answer.proofs.written.push_names.Goals as goal

pub loop-k-preserved : goal.loop-k-preserved
loop-k-preserved c range =
    let inside = c.loop-k-test.true in
    let more = flat_map_more (name_line (text_in c.args.sheet.now)) (vec_items c.args.out.now) _ _ in
    c.in_ok-push_name.ensures (range c.loop-k.k-index inside) ∙ rw (c.loop-k.invariant range, take_more c.args.plan.now c.loop-k.k-index 0 inside) more

pub returns : goal.returns
returns c range =
    c.loop-k.invariant range ∙ ap (λ ks. vec_items c.args.out.now ++ names_text (text_in c.args.sheet.now) ks) (take_all _ c.args.plan.now c.loop-k-test.false)
