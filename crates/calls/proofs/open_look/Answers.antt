-- `calls::open_look` meets its contract. Assumes nothing.
use Rattle.std.proofs.Common.{sym, ◌∙◌}
use Rattle.network.proofs.Answers.{passed-numbered, same-number, refused-says, made-says}
use Rattle.calls.specs.Returns.{look-by-check, look-by, look_opened}
use Rattle.checker.specs.Opened.{is_open, is-shut}
use Rattle.calls.proofs.open_look.Goals as goal

pub returns-in_err-s : goal.returns-in_err-s
unfolding look_opened
returns-in_err-s c =
    let a = c.args in
    let x = look-by-check c.in_err-s.field-0.0 a.node a.queue (is-shut c.open.ensures c.in_err-s.was) in
    passed-numbered _ _ c.from_residual.ensures.1 ∙ refused-says c.in_err-s.field-0.0 _ x

pub look_rules-requires : goal.look_rules-requires
look_rules-requires c = (is_open c.open.ensures c.in_ok-s.was).network.in-range

pub returns-in_err-look_rules : goal.returns-in_err-look_rules
unfolding look_opened
returns-in_err-look_rules c =
    let a = c.args in
    let x = look-by a.node a.queue (is_open c.open.ensures c.in_ok-s.was) (sym c.look_rules.ensures ∙ same-number c.in_err-look_rules.was) in
    passed-numbered _ _ c.from_residual-in_err-look_rules.ensures.1 ∙ refused-says c.in_err-look_rules.field-0.0 _ x

pub returns : goal.returns
unfolding look_opened
returns c =
    let a = c.args in
    let k = is_open c.open.ensures c.in_ok-s.was in
    let z = look-by a.node a.queue k (sym c.look_rules.ensures ∙ same-number c.in_ok-look_rules.was) in
    made-says z k.same
