-- `calls::offer` meets its contract. Assumes nothing.
use Rattle.std.proofs.Common.{ap, sym, ◌∙◌, arith}
use Rattle.network.specs.Sizes.{Shape, shape_of, injection_queue, most_chunks}
use Rattle.network.proofs.SizesLaws.{between-of}
use Rattle.network.proofs.LayoutLaws.{length_taken}
use Rattle.network.specs.Calls.{after_offer, offer_words}
use Rattle.network.proofs.CallLaws.{accepting}
use Rattle.network.proofs.Answers.{passed-number, same-number, refused-leaves, made-leaves}
use Rattle.calls.specs.Returns.{offer-shut, offer-by}
use Rattle.checker.specs.Opened.{is_open, is-shut}
use Rattle.calls.proofs.offer.Goals as goal

pub returns-in_err-s : goal.returns-in_err-s
unfolding offer_words
returns-in_err-s c =
    let a = c.args in
    let x = offer-shut c.in_err-s.field-0.0 a.node a.destination a.chunks (is-shut c.open.ensures c.in_err-s.was) in
    record { answer = passed-number _ _ c.from_residual.ensures.1 ∙ sym x; words = refused-leaves c.in_err-s.field-0.0 _ _ x }

pub offer_rules-requires : goal.offer_rules-requires
offer_rules-requires c = (is_open c.open.ensures c.in_ok-s.was).network

pub returns-in_err-offer_rules : goal.returns-in_err-offer_rules
unfolding offer_words
returns-in_err-offer_rules c =
    let a = c.args in
    let x = offer-by a.node a.destination a.chunks (is_open c.open.ensures c.in_ok-s.was) (sym c.offer_rules.ensures ∙ same-number c.in_err-offer_rules.was) in
    record { answer = passed-number _ _ c.from_residual-in_err-offer_rules.ensures.1 ∙ sym x; words = refused-leaves c.in_err-offer_rules.field-0.0 _ _ x }

pub accept-requires : goal.accept-requires
accept-requires c =
    let a = c.args in
    let k = is_open c.open.ensures c.in_ok-s.was in
    let p = accepting (shape_of c.in_ok-s.s) a.words.now a.node a.destination a.chunks k.network (sym c.offer_rules.ensures ∙ same-number c.in_ok-offer_rules.was) in
    let b = between-of 1 most_chunks a.chunks p.right in
    let l = length_taken (shape_of c.in_ok-s.s) a.words.now a.node injection_queue in
    record { network = k.network; n_bound = p.node; destination_bound = p.addressed; le_chunks = (b.low, b.high); injection_queue_len_bound = omega (arith, l, p.free) }

pub returns : goal.returns
unfolding offer_words
returns c =
    let a = c.args in
    let k = is_open c.open.ensures c.in_ok-s.was in
    let z = offer-by a.node a.destination a.chunks k (sym c.offer_rules.ensures ∙ same-number c.in_ok-offer_rules.was) in
    record {
      answer = sym z;
      words = made-leaves _ z (c.accept.ensures ∙ ap (λ (T : Shape). after_offer T a.words.now a.node a.destination a.tag a.chunks) k.sizes);
    }
