-- `session::next_command` meets its contract: the goals that the check does not find by itself. Assumes nothing.
use Rattle.std.proofs.Common.{ap, sym, ◌∙◌, rules}
use Rattle.session.specs.Coming.{coming_by}
use Rattle.session.proofs.ComingLaws.{byte_more, byte-ended, bytes-passed, end-coming}
use Rattle.session.proofs.RunningLaws.{took-within, finished-within}
use Rattle.session.proofs.next_command.Goals as goal

pub fed_command-requires : goal.fed_command-requires
fed_command-requires c = rw c.finish-fed.ensures (finished-within c.args.line.now _ c.requires)

pub returns-then-is_empty : goal.returns-then-is_empty
returns-then-is_empty c = end-coming _ _ _ _ _ (search rules) c.finish-fed.ensures ∙ ap (coming_by _ _ _) (sym c.fed_command.ensures)

-- a line that ends stands in the buffer
pub fed_command-requires-in-Line : goal.fed_command-requires-in-Line
fed_command-requires-in-Line c = took-within c.feed-fed.ensures (search rules)

pub loop-i-preserved : goal.loop-i-preserved
loop-i-preserved c = (search rules, c.loop-i.invariant.1 ∙ byte_more _ _ _ _ _ _ c.loop-i-test.true c.feed-fed.ensures _ c.in-More.is)

pub returns-in-Line : goal.returns-in-Line
returns-in-Line c =
    c.loop-i.invariant.1
    ∙ byte-ended _ _ _ _ _ _ c.loop-i-test.true c.feed-fed.ensures c.in-Line.is
    ∙ ap (coming_by _ _ _) (sym c.fed_command-in-Line.ensures)

pub returns : goal.returns
unfolding coming_by
returns c = c.loop-i.invariant.1 ∙ bytes-passed _ _ _ _ (search rules) (search rules)
