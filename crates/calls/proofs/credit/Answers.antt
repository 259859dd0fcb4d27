-- `calls::credit` meets its contract. Assumes nothing.
use Rattle.std.proofs.Common.{◌≡◌, ap, sym, ◌∙◌, subst, List, ℕ}
use Rattle.network.specs.Sizes.{Shape, shape_of}
use Rattle.network.specs.Routes.{free_load}
use Rattle.network.specs.Calls.{Answer, credit_answer}
use Rattle.network.specs.Answers.{CreditTells}
use Rattle.network.proofs.Answers.{credit-tells, passed-numbered, same-number, refused-says, made-says}
use Rattle.calls.specs.Returns.{credit-shut, credit-by, credit-place}
use Rattle.checker.specs.Opened.{is_open, is-shut}
use Rattle.calls.proofs.credit.Goals as goal

told : {w : List ℕ} {n o : ℕ} {said : Answer ℕ} → said ≡ credit_answer w n o → CreditTells w n o said
told {w} {n} {o} e = subst (λ (r : Answer ℕ). CreditTells w n o r) (sym e) (credit-tells w n o)

pub returns-in_err-s : goal.returns-in_err-s
unfolding credit_answer
returns-in_err-s c =
    let a = c.args in
    let x = credit-shut c.in_err-s.field-0.0 a.node a.output (is-shut c.open.ensures c.in_err-s.was) in
    let e = passed-numbered _ _ c.from_residual.ensures.1 ∙ refused-says c.in_err-s.field-0.0 _ x in
    record { answer = e; told = told e }

pub credit_rules-requires : goal.credit_rules-requires
credit_rules-requires c = (is_open c.open.ensures c.in_ok-s.was).network.in-range

pub returns-in_err-credit_rules : goal.returns-in_err-credit_rules
unfolding credit_answer
returns-in_err-credit_rules c =
    let a = c.args in
    let x = credit-by a.node a.output (is_open c.open.ensures c.in_ok-s.was) (sym c.credit_rules.ensures ∙ same-number c.in_err-credit_rules.was) in
    let e = passed-numbered _ _ c.from_residual-in_err-credit_rules.ensures.1 ∙ refused-says c.in_err-credit_rules.field-0.0 _ x in
    record { answer = e; told = told e }

pub free_load-requires : goal.free_load-requires
free_load-requires c =
    let a = c.args in
    let k = is_open c.open.ensures c.in_ok-s.was in
    let p = credit-place (shape_of c.in_ok-s.s) a.node a.output (sym c.credit_rules.ensures ∙ same-number c.in_ok-credit_rules.was) in
    record { queue_of = record { network = k.network; node = p.0; queue = p.2 }; o_nonzero = p.1 }

pub returns : goal.returns
unfolding credit_answer
returns c =
    let a = c.args in
    let k = is_open c.open.ensures c.in_ok-s.was in
    let z = credit-by a.node a.output k (sym c.credit_rules.ensures ∙ same-number c.in_ok-credit_rules.was) in
    let e = made-says z (c.free_load.ensures ∙ ap (λ (T : Shape). free_load T a.words.now a.node a.output) k.sizes) in
    record { answer = e; told = told e }
