-- `calls::move_packet` meets its contract. Assumes nothing.
use Rattle.std.proofs.Common.{◌≡◌, ap, sym, ◌∙◌, subst, List, ℕ, Option}
use Rattle.network.specs.Sizes.{Shape, shape_of}
use Rattle.network.proofs.RefusalLaws.{permitted-of}
use Rattle.network.specs.Calls.{Answer, after_move, move_answer, move_words}
use Rattle.network.specs.Answers.{MoveTells}
use Rattle.network.proofs.Answers.{move-tells, passed-numbered, same-number, refused-says, refused-leaves, made-says, made-leaves}
use Rattle.calls.specs.Returns.{move-shut, move-by, handed-head, handed-none}
use Rattle.checker.specs.Opened.{is_open, is-shut}
use Rattle.calls.proofs.move_packet.Goals as goal

told : (w : List ℕ) (n q o : ℕ) {said : Answer (Option ℕ)} → said ≡ move_answer w n q o → MoveTells w n q o said
told w n q o e = subst (λ (r : Answer (Option ℕ)). MoveTells w n q o r) (sym e) (move-tells w n q o)

pub returns-in_err-s : goal.returns-in_err-s
unfolding move_answer move_words
returns-in_err-s c =
    let a = c.args in
    let x = move-shut c.in_err-s.field-0.0 a.node a.queue a.output (is-shut c.open.ensures c.in_err-s.was) in
    let e = passed-numbered _ _ c.from_residual.ensures.1 ∙ refused-says c.in_err-s.field-0.0 _ x in
    record { answer = e; words = refused-leaves c.in_err-s.field-0.0 _ _ x; told = told _ _ _ _ e }

pub move_rules-requires : goal.move_rules-requires
move_rules-requires c = (is_open c.open.ensures c.in_ok-s.was).network

pub returns-in_err-move_rules : goal.returns-in_err-move_rules
unfolding move_answer move_words
returns-in_err-move_rules c =
    let a = c.args in
    let x = move-by a.node a.queue a.output (is_open c.open.ensures c.in_ok-s.was) (sym c.move_rules.ensures ∙ same-number c.in_err-move_rules.was) in
    let e = passed-numbered _ _ c.from_residual-in_err-move_rules.ensures.1 ∙ refused-says c.in_err-move_rules.field-0.0 _ x in
    record { answer = e; words = refused-leaves c.in_err-move_rules.field-0.0 _ _ x; told = told _ _ _ _ e }

pub make_move-p-requires : goal.make_move-p-requires
make_move-p-requires c =
    let a = c.args in
    let k = is_open c.open.ensures c.in_ok-s.was in
    record {
      network = k.network;
      permitted = permitted-of (shape_of c.in_ok-s.s) a.words.now a.node a.queue a.output (sym c.move_rules.ensures ∙ same-number c.in_ok-move_rules.was);
    }

pub returns-then-output-eq-DELIVER : goal.returns-then-output-eq-DELIVER
unfolding move_answer move_words
returns-then-output-eq-DELIVER c =
    let a = c.args in
    let k = is_open c.open.ensures c.in_ok-s.was in
    let z = move-by a.node a.queue a.output k (sym c.move_rules.ensures ∙ same-number c.in_ok-move_rules.was) in
    let e = made-says z (handed-head a.node a.queue a.output k c.if-output-eq-DELIVER.true c.make_move-p.ensures.head) in
    record {
      answer = e;
      words = made-leaves _ z (c.make_move-p.ensures.words ∙ ap (λ (T : Shape). after_move T a.words.now a.node a.queue a.output) k.sizes);
      told = told _ _ _ _ e;
    }

pub returns : goal.returns
unfolding move_answer move_words
returns c =
    let a = c.args in
    let k = is_open c.open.ensures c.in_ok-s.was in
    let z = move-by a.node a.queue a.output k (sym c.move_rules.ensures ∙ same-number c.in_ok-move_rules.was) in
    let e = made-says z (handed-none a.output _ c.if-output-eq-DELIVER.false) in
    record {
      answer = e;
      words = made-leaves _ z (c.make_move-p.ensures.words ∙ ap (λ (T : Shape). after_move T a.words.now a.node a.queue a.output) k.sizes);
      told = told _ _ _ _ e;
    }
