use Rattle.std.proofs.Common.{refl, arith, rules}
use Rattle.lines.proofs.Reach.{reached_more, wrong_here, wrong_end, good_end}
use Rattle.lines.proofs.reader.only_lines.Goals as goal

pub returns-then-not-feed : goal.returns-then-not-feed
returns-then-not-feed c = (refl, wrong_here c.loop-i.reader.state _ _ c.loop-i-test.true c.loop-i.invariant c.if-not-feed.ensures.0)

pub loop-i-preserved : goal.loop-i-preserved
loop-i-preserved c = reached_more c.loop-i.reader.state _ _ c.feed.new.self.state c.loop-i-test.true c.if-not-feed.ensures c.loop-i.invariant

pub returns-in-LineStart : goal.returns-in-LineStart
returns-in-LineStart c = good_end c.loop-i.reader.state _ _ c.loop-i-test.false c.loop-i.invariant c.in-LineStart.is

pub returns-in-WordStart : goal.returns-in-WordStart
returns-in-WordStart c = (refl, wrong_end c.loop-i.reader.state _ _ c.loop-i-test.false (omega arith) c.loop-i.invariant (search rules))
