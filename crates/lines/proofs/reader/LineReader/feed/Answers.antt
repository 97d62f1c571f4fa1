use Rattle.std.proofs.Common.{refl, rules}
use Rattle.lines.proofs.Steps.{word_on, end_on, stuck}
use Rattle.lines.proofs.reader.LineReader.feed.Goals as goal

pub returns-then-is_word_byte : goal.returns-then-is_word_byte
returns-then-is_word_byte c = word_on c.args.self.now.state c.args.byte (search rules)

pub returns-in-InWord-eq10 : goal.returns-in-InWord-eq10
returns-in-InWord-eq10 c = rw (c.in-InWord-eq10.is-0, c.in-InWord-eq10.is-1) end_on

pub returns-in_default-2 : goal.returns-in_default-2
returns-in_default-2 c = (stuck c.args.self.now.state c.args.byte (search rules) (search rules) (search rules), refl)

pub returns-in_default-2-2 : goal.returns-in_default-2-2
returns-in_default-2-2 c = (stuck c.args.self.now.state c.args.byte (search rules) (search rules) (search rules), refl)
