-- Demand 3 in lists (network/specs/InLists.antt), a corollary of the theorem by the laws of its helpers. Assumes nothing.
use Rattle.std.specs.Prelude.{◌≡◌, refl, List, [], ◌∷◌, map, ℕ, suc, length}
use Rattle.std.proofs.Math.Decide.{ℕ_discrete}
use Rattle.std.proofs.Common.{arith}
use Rattle.std.proofs.lemmas.List.{length-map}
use Rattle.base.specs.Rearrangement.{Rearranged}
use Rattle.base.proofs.Rearrangement.{count-append}
use Rattle.network.specs.Packet.{label}
use Rattle.network.specs.Layout.{shape}
use Rattle.network.specs.Refusals.{network_refusal}
use Rattle.network.specs.Calls.{Delivery}
use Rattle.network.specs.Run.{Call, Outcome, run, AfterRun, Demand3}
use Rattle.network.specs.InLists.{all_held, words_of, InLists}
use Rattle.network.proofs.InListsLaws.{held_number, held-with-is, handed-with-is, at-home-is, leads-is, some-move-is, all-kept-is}
use Rattle.run.specs.Theorem.{demand3}

-- what holds after a run, in lists
after-in-lists : (w : List ℕ) (r : Outcome) → AfterRun w r → InLists w r
unfolding Rearranged
after-in-lists w r a =
    record {
      labels =
          λ l.
          let c = count-append ℕ_discrete l (map label (words_of r.handed_out)) (map label (all_held (shape w) r.words)) in
          let x = handed-with-is l r.handed_out in
          let y = held-with-is l (shape w) r.words in
          let z = held-with-is l (shape w) w in
          let e = a.none-lost-or-doubled l in
          omega arith;
      own-labels = ((at-home-is r.handed_out).0 a.handed-out-at-destination).0;
      at-destinations = ((at-home-is r.handed_out).0 a.handed-out-at-destination).1;
      risen = let l = length-map r.handed_out (λ (d : Delivery). d.packet) in let e = a.deliveries-made in omega arith;
      answered = ((leads-is w r.moves r.words).0 a.one_by_one).0;
      same-words = ((leads-is w r.moves r.words).0 a.one_by_one).1;
      goes_on = λ some. (some-move-is r.words).0 (a.goes_on (λ z. some (none (all_held (shape w) r.words) (let e = held_number (shape w) r.words in omega arith))));
      ledgers = (all-kept-is r.ledgers).0 a.ledgers-kept;
    }
  where
    none : (ps : List ℕ) → length ps ≡ 0 → ps ≡ []
    none [] e = refl
    none (p ∷ ps) e = absurd (let z : suc (length ps) ≡ 0 = e in omega arith)

-- R210, R211: of all words that pass the check and every list of Moves and Drains
pub in-lists : (w : List ℕ) (calls : List Call) → network_refusal w ≡ 0 → InLists w (run calls w)
unfolding Demand3
in-lists w calls e = after-in-lists w (run calls w) (demand3 w calls e)
