-- What Make, Offer and Move leave in the words, said of the calls themselves and of whatever words they are lent. Order: the torus of a network; what an
-- offer needs; what Move and Offer do where they are not refused; a queue's order; the words behind the last node; what Credit tells; what fixes the words.
-- Assumes nothing.
use Rattle.std.specs.Prelude.{◌≡◌, refl, ◌≢◌, List, [], ◌∷◌, ◌++◌, ℕ, ◌+◌, ◌*◌, ◌<◌, ◌≤◌, T, leb, eqb, length, take, drop, replicate, Ok}
use Rattle.std.proofs.Common.{ap, sym, ◌∙◌, arith, eq-eqb, ne_eqb, leb-false, length-append, drop_at}
use mathlib.Core.Bool.{Bool, true, false, not, ◌||◌}
use Rattle.std.proofs.Math.Decide.{ℕ_discrete}
use Rattle.std.proofs.lemmas.Bool.{eqb-false}
use Rattle.std.proofs.lemmas.List.{length-replicate}
use Rattle.network.specs.Sizes.{Shape, within, nodes, queues, dimensions, direction_of, injection_queue, most_chunks, capacity}
use Rattle.network.proofs.SizesLaws.{between-of}
use Rattle.network.specs.TorusLaws.{Torus}
use Rattle.network.proofs.TorusLaws.{in_range-torus, neighbour-lt}
use Rattle.network.specs.Layout.{shape, need, node_words, held, taken, accepted, delivered, moves_made}
use Rattle.network.proofs.LayoutLaws.{taken-length}
use Rattle.network.specs.Check.{most_accepted}
use Rattle.network.specs.CheckLaws.{Network}
use Rattle.network.specs.SameWords.{SameQueues}
use Rattle.network.proofs.SameWords.{network-stored, same_nodes, same-header}
use Rattle.network.specs.Routes.{target, free_load, deliver}
use Rattle.network.proofs.RoutesLaws.{free-load-is}
use Rattle.network.specs.Refusals.{network_refusal, make_refusal, offer_rules, offer_refusal, move_rules, move_refusal, credit_rules, credit_refusal}
use Rattle.network.proofs.RefusalLaws.{not-refused, neither, network-passed, permitted-of}
use Rattle.network.specs.Calls.{empty_header, empty_network, make_words, offered, after_offer, offer_words, move_words, credit_answer, credit_number, credit_free}
use Rattle.network.proofs.Answers.{credit-tells}
use Rattle.network.specs.AfterLaws.{hopped, MoveMade, OfferTaken}
use Rattle.network.proofs.AfterLaws.{move-made, offer-taken}
use Rattle.network.specs.CallLaws.{Accepting}

-- the sizes of a network are those of a torus
pub torus : (w : List ℕ) → Network (shape w) w → Torus (shape w)
unfolding shape
torus w N = in_range-torus (shape w) N.in-range refl

-- neither of two tests has applied
neither-of : (a b : Bool) → a || b ≡ false → (a ≡ false) × (b ≡ false)
neither-of true b e = absurd (mathlib.Core.Bool.true≢false e)
neither-of false b e = (refl, e)

pub accepting : (S : Shape) (w : List ℕ) (n dest chunks : ℕ) → Network S w → offer_rules S w n dest chunks ≡ 0 → Accepting S w n dest chunks
unfolding offer_rules
accepting S w n dest chunks N e =
    let (a, e₁) = not-refused (leb (nodes S) n || leb (nodes S) dest) 3 _ e in
    let (k, e₂) = not-refused (not (within 1 most_chunks chunks)) 1 _ e₁ in
    let (o, e₃) = not-refused (eqb n dest) 13 _ e₂ in
    let (b, e₄) = not-refused (eqb (accepted w) most_accepted) 7 _ e₃ in
    let (c, e₅) = not-refused (eqb (taken S w n injection_queue) (capacity S injection_queue)) 6 _ e₄ in
    let (x, y) = neither-of (leb (nodes S) n) (leb (nodes S) dest) a in
    let hn : n < nodes S = leb-false (nodes S) n x in
    let spent : accepted w ≢ most_accepted = eqb-false (accepted w) most_accepted b in
    let full : taken S w n injection_queue ≢ capacity S injection_queue = eqb-false (taken S w n injection_queue) (capacity S injection_queue) c in
    let most : accepted w ≤ most_accepted = N.few-accepted in
    let light : taken S w n injection_queue ≤ capacity S injection_queue = (N.queue n injection_queue hn (omega arith)).light in
    record {
      node = hn;
      addressed = leb-false (nodes S) dest y;
      right = passed (within 1 most_chunks chunks) k;
      fewer = omega arith;
      free = omega arith;
    }
  where
    passed : (b : Bool) → not b ≡ false → T b
    passed true e = tt
    passed false e = absurd (mathlib.Core.Bool.true≢false e)

pub few-chunks : {S : Shape} {w : List ℕ} {n dest chunks : ℕ} → Accepting S w n dest chunks → chunks ≤ most_chunks
few-chunks {chunks} A = (between-of 1 most_chunks chunks A.right).high

-- what such an offer does
pub accepted-taken : (S : Shape) (w : List ℕ) (n dest tag chunks : ℕ) → Network S w → Accepting S w n dest chunks
    → OfferTaken S w (after_offer S w n dest tag chunks) n (offered S n dest tag chunks)
accepted-taken S w n dest tag chunks N A =
    let e = taken-length S w n injection_queue refl in
    let l = A.free in
    offer-taken S w n dest tag chunks (network-stored S w N) A.node (omega arith)

-- The calls that are not refused ----------------------------------------------------------------------------------------------------------

pub offer-call : (w : List ℕ) (n dest tag chunks : ℕ) → offer_refusal w n dest chunks ≡ 0
    → OfferTaken (shape w) w (offer_words w n dest tag chunks) n (offered (shape w) n dest tag chunks)
unfolding offer_words offer_refusal
offer-call w n dest tag chunks e =
    let (network, rules) = neither (network_refusal w) (offer_rules (shape w) w n dest chunks) e in
    let N : Network (shape w) w = network-passed w network in
    rw (eq-eqb (offer_refusal w n dest chunks) 0 e) (accepted-taken (shape w) w n dest tag chunks N (accepting (shape w) w n dest chunks N rules))

pub move-call : (w : List ℕ) (n q o : ℕ) → move_refusal w n q o ≡ 0 → MoveMade (shape w) w (move_words w n q o) n q o
unfolding move_words move_refusal
move-call w n q o e =
    let (network, rules) = neither (network_refusal w) (move_rules (shape w) w n q o) e in
    let N : Network (shape w) w = network-passed w network in
    rw (eq-eqb (move_refusal w n q o) 0 e) (move-made (shape w) w n q o (torus w N) N (permitted-of (shape w) w n q o rules))

-- R101, R108, R109: a queue is first in, first out: what joins it stands behind all that it held, and what leaves it stood in front
pub offered-behind : (w : List ℕ) (n dest tag chunks : ℕ) → offer_refusal w n dest chunks ≡ 0
    → held (shape w) (offer_words w n dest tag chunks) n injection_queue ≡ held (shape w) w n injection_queue ++ (offered (shape w) n dest tag chunks ∷ [])
offered-behind w n dest tag chunks e = (offer-call w n dest tag chunks e).newest

pub arrived-behind : (w : List ℕ) (n q o : ℕ) → move_refusal w n q o ≡ 0 → o ≢ deliver
    → held (shape w) (move_words w n q o) (target (shape w) n o) o ≡ held (shape w) w (target (shape w) n o) o ++ (hopped (shape w) w n q o ∷ [])
arrived-behind w n q o e away = (move-call w n q o e).arrival away

pub left-in-front : (w : List ℕ) (n q o : ℕ) → move_refusal w n q o ≡ 0 → held (shape w) (move_words w n q o) n q ≡ drop 1 (held (shape w) w n q)
left-in-front w n q o e = (move-call w n q o e).source

-- The words behind the last node ----------------------------------------------------------------------------------------------------------

-- R47, R91: what Make writes is what the sizes need
pub empty-length : (S : Shape) → length S.sizes ≡ dimensions → length (empty_network S) ≡ need S
unfolding empty_network empty_header need
empty-length S all-dimensions =
    let zeros : List ℕ = replicate (nodes S * node_words S) 0 in
    let counters : List ℕ = S.escape ∷ S.adaptive ∷ S.injection ∷ 0 ∷ 0 ∷ 0 ∷ [] in
    let a = length-append (S.sizes ++ counters) zeros in
    let b = length-append S.sizes counters in
    let c : length zeros ≡ nodes S * node_words S = length-replicate (nodes S * node_words S) 0 in
    omega arith

-- R48: whatever the words are, and whether the call is refused or not, what lies behind the last node stays
pub make-rest : (S : Shape) (w : List ℕ) → length S.sizes ≡ dimensions → drop (need S) (make_words S w) ≡ drop (need S) w
unfolding make_words
make-rest S w all-dimensions = go (ℕ_discrete (make_refusal S w) 0)
  where
    go : Dec (make_refusal S w ≡ 0) → drop (need S) (make_words S w) ≡ drop (need S) w
    go (yes e) = rw (eq-eqb (make_refusal S w) 0 e) (drop_at (empty_network S) (drop (need S) w) (need S) (empty-length S all-dimensions))
    go (no ne) = rw (ne_eqb (make_refusal S w) 0 ne) refl

pub offer-rest : (w : List ℕ) (n dest tag chunks : ℕ) → drop (need (shape w)) (offer_words w n dest tag chunks) ≡ drop (need (shape w)) w
unfolding offer_words
offer-rest w n dest tag chunks = go (ℕ_discrete (offer_refusal w n dest chunks) 0)
  where
    go : Dec (offer_refusal w n dest chunks ≡ 0) → drop (need (shape w)) (offer_words w n dest tag chunks) ≡ drop (need (shape w)) w
    go (yes e) = (offer-call w n dest tag chunks e).kept.rest
    go (no ne) = rw (ne_eqb (offer_refusal w n dest chunks) 0 ne) refl

-- What Credit tells -----------------------------------------------------------------------------------------------------------------------

-- R89, R116: what Credit tells to be free and what is taken of the target make up its capacity. No load is above it, so nothing is cut off
pub credit-exactly : (w : List ℕ) (n o free : ℕ) → credit_answer w n o ≡ Ok free
    → free + taken (shape w) w (target (shape w) n o) o ≡ capacity (shape w) o
unfolding credit_number credit_free credit_refusal credit_rules target
credit-exactly w n o free e =
    let S : Shape = shape w in
    let none : credit_refusal w n o ≡ 0 = sym (credit-tells w n o).number ∙ ap credit_number e in
    let told : free ≡ free_load S w n o = sym (ap credit_free e) ∙ (credit-tells w n o).free ∙ rw (eq-eqb (credit_refusal w n o) 0 none) refl in
    let (checked, rules) = neither (network_refusal w) (credit_rules S n o) none in
    let (node, rest) = not-refused (leb (nodes S) n) 3 _ rules in
    let (output, end) = not-refused (eqb o deliver || leb queues o) 5 _ rest in
    let (away, below) = neither-of (eqb o deliver) (leb queues o) output in
    let N : Network S w = network-passed w checked in
    let there : target S n o < nodes S = neighbour-lt S (direction_of o) n (torus w N) (omega arith) (leb-false (nodes S) n node) in
    let light : taken S w (target S n o) o ≤ capacity S o = (N.queue (target S n o) o there (leb-false queues o below)).light in
    let free-is = free-load-is S w n o in
    omega arith

-- What fixes the words --------------------------------------------------------------------------------------------------------------------

-- R40 to R49, R73: up to the last node no word of a network is free: sizes, counters and packets fix them all
pub words-fixed : (w v : List ℕ) → network_refusal w ≡ 0 → network_refusal v ≡ 0
    → shape w ≡ shape v → accepted w ≡ accepted v → delivered w ≡ delivered v → moves_made w ≡ moves_made v → SameQueues (shape w) w v
    → take (need (shape w)) w ≡ take (need (shape w)) v
words-fixed w v e f sizes accepted-same delivered-same moves-same packets =
    let N : Network (shape w) w = network-passed w e in
    let M : Network (shape w) v = rw sizes (network-passed v f) in
    same_nodes (shape w) w v (network-stored (shape w) w N) (network-stored (shape w) v M)
    (same-header w v sizes accepted-same delivered-same moves-same)
    packets
