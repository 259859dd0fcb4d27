-- `reader::field_end` meets its contract: the field ends where the byte stands first. Assumes nothing.
use Rattle.std.proofs.Common.{rules, tests, arith, eqb, ◌∙◌, ◌-◌, length, drop, length-drop}
use lib.Seq.{take_all}
use Rattle.std.proofs.lemmas.Iterator.{YieldsList-from_slice}
use Rattle.std.proofs.lemmas.Iterator.Search.{position_from_yields_List}
use Rattle.reader.proofs.Fields.{Found, found-at, found-none}
use Rattle.reader.proofs.field_end.Goals as goal
use Rattle.reader.proofs.field_end.Goals.{After-position}

found : (c : After-position) → Found c.args.stop (drop c.args.at c.args.line.now) c.position.result
found c =
    let line = c.args.line.now in
    let at = c.args.at in
    let all = take_all (length line - at) (drop at line) (omega (arith, length-drop at line)) in
    position_from_yields_List (λ b. eqb b c.args.stop) _ _ c.position.result c.position.ensures.ran (YieldsList-from_slice (drop at line) (c.iter.ensures.rest ∙ all))
    (λ x b q k. search (rules, tests))

pub returns-in-Some : goal.returns-in-Some
returns-in-Some c =
    let h = found-at c.args.stop (drop c.args.at c.args.line.now) (found (goal.at.returns-in-Some c).After-position) _ c.in-Some.is in
    omega arith

pub returns-in-None : goal.returns-in-None
returns-in-None c =
    let h = found-none c.args.stop (drop c.args.at c.args.line.now) (found (goal.at.returns-in-None c).After-position) c.in-None.is in
    omega (arith, length-drop c.args.at c.args.line.now, c.requires)
