-- `calls::first` meets its contract. Assumes nothing.
use Rattle.std.proofs.Common.{◌≡◌, ap, sym, ◌∙◌, subst, List, ℕ, Option}
use Rattle.network.specs.declared.NamedMove.{NamedMove}
use Rattle.network.specs.Sizes.{Shape}
use Rattle.network.specs.Calls.{Answer, first_move, first_answer}
use Rattle.network.specs.Answers.{FirstTells}
use Rattle.network.proofs.Answers.{first-tells, passed-numbered, refused-says, made-says}
use Rattle.checker.specs.Opened.{is_open, is-shut}
use Rattle.calls.proofs.first.Goals as goal

told : {w : List ℕ} {said : Answer (Option NamedMove)} → said ≡ first_answer w → FirstTells w said
told {w} e = subst (λ (r : Answer (Option NamedMove)). FirstTells w r) (sym e) (first-tells w)

pub returns-in_err-s : goal.returns-in_err-s
unfolding first_answer
returns-in_err-s c =
    let e = passed-numbered _ _ c.from_residual.ensures.1 ∙ refused-says c.in_err-s.field-0.0 _ (is-shut c.open.ensures c.in_err-s.was).says in
    record { answer = e; told = told e }

pub first_move-requires : goal.first_move-requires
first_move-requires c = (is_open c.open.ensures c.in_ok-s.was).network

pub returns : goal.returns
unfolding first_answer
returns c =
    let k = is_open c.open.ensures c.in_ok-s.was in
    let e = made-says k.passed (c.first_move.ensures ∙ ap (λ (T : Shape). first_move T c.args.words.now) k.sizes) in
    record { answer = e; told = told e }
