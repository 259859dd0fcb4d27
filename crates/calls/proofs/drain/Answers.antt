-- `calls::drain` meets its contract. Assumes nothing.
use Rattle.std.proofs.Common.{◌≡◌, ap, sym, ◌∙◌, subst, List, ℕ, length}
use Rattle.network.specs.declared.Drained.{Drained}
use Rattle.network.specs.Calls.{Answer, Progress, drain_of, drain_answer, drain_words, drain_ledger}
use Rattle.network.specs.Answers.{DrainTells}
use Rattle.network.proofs.Answers.{drain-tells, passed-numbered, refused-says, refused-leaves, made-says, made-leaves}
use Rattle.calls.specs.Returns.{drain-whole, drain-writes}
use Rattle.checker.specs.Opened.{is_open, is-shut}
use Rattle.calls.proofs.drain.Goals as goal

told : (w : List ℕ) (budget room : ℕ) {said : Answer Drained} → said ≡ drain_answer w budget room → DrainTells w budget room said
told w budget room e = subst (λ (r : Answer Drained). DrainTells w budget room r) (sym e) (drain-tells w budget room)

pub returns-in_err-s : goal.returns-in_err-s
unfolding drain_answer drain_words drain_ledger
returns-in_err-s c =
    let x = (is-shut c.open.ensures c.in_err-s.was).says in
    let e = passed-numbered _ _ c.from_residual.ensures.1 ∙ refused-says c.in_err-s.field-0.0 _ x in
    record { answer = e; words = refused-leaves c.in_err-s.field-0.0 _ _ x; ledger = refused-leaves c.in_err-s.field-0.0 _ _ x; told = told _ _ _ e }

pub drain_network-requires : goal.drain_network-requires
drain_network-requires c = (is_open c.open.ensures c.in_ok-s.was).network

pub returns : goal.returns
unfolding drain_answer drain_words
returns c =
    let a = c.args in
    let k = is_open c.open.ensures c.in_ok-s.was in
    let d = c.drain_network.ensures in
    let whole = drain-whole a.budget a.ledger.now k d.whole in
    let e = made-says k.passed (d.says ∙ ap (λ (r : Progress). drain_of (length r.moves) (length r.deliveries) r.stop) (sym whole)) in
    record {
      answer = e;
      words = made-leaves _ k.passed (ap (λ (r : Progress). r.words) (sym whole));
      ledger = drain-writes a.words.now a.budget a.ledger.now k.passed whole d.writes;
      told = told _ _ _ e;
    }
