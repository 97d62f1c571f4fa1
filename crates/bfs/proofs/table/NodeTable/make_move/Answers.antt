use Rattle.std.proofs.Common.{refl, sym, ◌∙◌}
use Rattle.std.proofs.lemmas.Result.{err_from_is_err_and}
use Rattle.bfs.proofs.Turns.{turned_none, turned_held, turned_full, turned_push}
use Rattle.bfs.proofs.table.NodeTable.make_move.Goals as goal

pub returns-in_default-clause-turned : goal.returns-in_default-clause-turned
returns-in_default-clause-turned g c last l = turned_none (sym c.next_of.ensures ∙ c.in_default.is)

pub returns-then-has-clause-turned : goal.returns-then-has-clause-turned
returns-then-has-clause-turned g c last l = turned_held (sym c.next_of.ensures ∙ c.in-Some.is) (c.if-has.ensures.found refl)

pub returns-in_err-check_room-clause-turned : goal.returns-in_err-check_room-clause-turned
returns-in_err-check_room-clause-turned g c last l =
    let p = err_from_is_err_and c.from_residual.result c.from_residual.ensures.1 in
    rw p.1 (turned_full l (sym c.next_of.ensures ∙ c.in-Some.is) (c.if-has.ensures.missed refl) (rw p.2 (c.in_err-check_room.ensures.full _ refl)))

pub returns-clause-turned : goal.returns-clause-turned
returns-clause-turned g c last l =
    turned_push (c.in_ok-check_room.ensures.room refl) c.push.ensures l (sym c.next_of.ensures ∙ c.in-Some.is) (c.if-has.ensures.missed refl) c.onward-link.ensures
