-- What the inner functions of the writer of a dump do, in terms of `waveform`, specs/Dump.antt and Calls.antt. Nothing here has to be believed: no contract of
-- a call names it. Order: fills read into a list; a step of fills that have been read; that of a network's fills it is what the calls say. Assumes nothing.
use Rattle.std.specs.Prelude.{◌≡◌, ◌≢◌, Bool, true, ◌||◌, ltb, length, get_or, Ok, Err}
use Rattle.std.proofs.Math.Path.{refl, ap, ap₂, sym}
use Rattle.std.proofs.Common.{◌∙◌, length-append, length-drop, drop-cons}
use mathlib.Core.List.{List, [], ◌∷◌, ◌++◌, append-nil, append_assoc}
use Prim.Native.Nat.{ℕ, suc, ◌+◌, ◌*◌, ◌/◌, ◌%◌, ◌<◌, ◌≤◌}
use native.Mathlib.Omega.{arith}
use Rattle.std.proofs.Math.ListN.{drop, set}
use Rattle.std.proofs.Math.Seq.{drop-length, set_at}
use borrow.Author.Tests.{ne_eqb, le-ltb}
use Rattle.network.specs.Sizes.{Shape, queues}
use Rattle.network.specs.Layout.{shape, moves_made, held}
use Rattle.network.specs.Refusals.{network_refusal, refuse, short_page}
use Rattle.network.proofs.RefusalLaws.{else_by-zero, else_by-first}
use Rattle.network.specs.Calls.{unless_refused, Answer}
use Rattle.waveform.specs.Dump.{variables_of, fills_to, fills, step_bytes}
use Rattle.waveform.proofs.DumpLaws.{fills_to-length, fills-length}
use Rattle.waveform.specs.Calls.{fills_now, written_step, write_rules, write_refusal, write_answer, write_page, write_list}

-- the fills of the first i queues stand in a list that was lent
pub record FirstFills (S : Shape) (w : List ℕ) (i : ℕ) (lent counts : List ℕ) : Type 0 where
  pub within : i ≤ length lent
  pub same : counts ≡ fills_to S w i ++ drop i lent

-- those of node n come to those of the nodes before it
abbrev pub FillsAdded : Shape → List ℕ → ℕ → List ℕ → List ℕ → Type 0
FillsAdded S w n before after = (lent : List ℕ) → FirstFills S w (n * queues) lent before → FirstFills S w (n * queues + queues) lent after

pub filled_none : (S : Shape) (w lent : List ℕ) → FirstFills S w 0 lent lent
unfolding fills_to
filled_none S w lent = record { within = omega arith; same = refl }

module _ {S : Shape} {w : List ℕ} {i : ℕ} {lent counts : List ℕ} (f : FirstFills S w i lent counts) where
  pub filled-length : length counts ≡ length lent
  filled-length =
      let a = ap length f.same ∙ length-append (fills_to S w i) (drop i lent) in
      let t = fills_to-length S w i in
      let d = length-drop i lent in
      let b = f.within in
      omega arith

  pub filled_more : i < length lent → (v : ℕ) → v ≡ length (held S w (i / queues) (i % queues)) → FirstFills S w (i + 1) lent (set counts i v)
  unfolding fills_to
  filled_more h v e =
      let n : suc i ≡ i + 1 = omega arith in
      record {
        within = omega arith;
        same =
            ap (λ l. set l i v) (f.same ∙ ap (λ l. fills_to S w i ++ l) (drop-cons lent i 0 h))
            ∙ set_at (fills_to S w i) (get_or lent i 0) (drop (suc i) lent) v i (fills_to-length S w i)
            ∙ sym (append_assoc (fills_to S w i) (v ∷ []) (drop (suc i) lent))
            ∙ ap (λ k. (fills_to S w i ++ (k ∷ [])) ++ drop (suc i) lent) e
            ∙ ap (λ k. fills_to S w k ++ drop k lent) n;
      }

  pub filled-all : i ≡ length lent → i ≡ variables_of S → counts ≡ fills S w
  unfolding fills
  filled-all e v =
      f.same
      ∙ ap (λ l. fills_to S w i ++ l) (ap (λ k. drop k lent) e ∙ drop-length lent)
      ∙ append-nil (fills_to S w i)
      ∙ ap (fills_to S w) v

-- a step of fills that have been read
abbrev pub counts_refusal : Bool → ℕ → List ℕ → List ℕ → List ℕ → ℕ
counts_refusal first time counts list page =
    refuse (ltb (length list) (length counts) || ltb (length page) (length (step_bytes first time counts list))) short_page 0

unfoldable pub counts_answer : Bool → ℕ → List ℕ → List ℕ → List ℕ → Answer ℕ
counts_answer first time counts list page =
    unless_refused (counts_refusal first time counts list page) (Ok (length (step_bytes first time counts list))) (Err (counts_refusal first time counts list page))

unfoldable pub counts_page : Bool → ℕ → List ℕ → List ℕ → List ℕ → List ℕ
counts_page first time counts list page =
    unless_refused (counts_refusal first time counts list page) (step_bytes first time counts list ++ drop (length (step_bytes first time counts list)) page) page

unfoldable pub counts_list : Bool → ℕ → List ℕ → List ℕ → List ℕ → List ℕ
counts_list first time counts list page = unless_refused (counts_refusal first time counts list page) (counts ++ drop (length counts) list) list

-- what is answered, and what is left in the list and on the page
abbrev pub Leaves : {A : Type 0} → A → A → List ℕ → List ℕ → List ℕ → List ℕ → Type 0
Leaves said answer left list written page = (said ≡ answer) × ((left ≡ list) × (written ≡ page))

module _ (first : Bool) (time : ℕ) (counts list page : List ℕ) where
  pub counts-refused : (ltb (length list) (length counts) || ltb (length page) (length (step_bytes first time counts list))) ≡ true
      → Leaves {A = Answer ℕ} (Err short_page) (counts_answer first time counts list page) list (counts_list first time counts list page) page
      (counts_page first time counts list page)
  unfolding counts_answer counts_list counts_page
  counts-refused e = (rw e, (rw e, rw e))

  pub counts-written : length counts ≤ length list → length (step_bytes first time counts list) ≤ length page
      → Leaves {A = Answer ℕ} (Ok (length (step_bytes first time counts list))) (counts_answer first time counts list page) (counts ++ drop (length counts) list)
      (counts_list first time counts list page) (step_bytes first time counts list ++ drop (length (step_bytes first time counts list)) page)
      (counts_page first time counts list page)
  unfolding counts_answer counts_list counts_page
  counts-written l p =
      let a = le-ltb (length list) (length counts) l in
      let b = le-ltb (length page) (length (step_bytes first time counts list)) p in
      (rw (a, b), (rw (a, b), rw (a, b)))

-- of the words of a network it is the step of the call, and words that are none are refused by the network's own
module _ (first : Bool) (w list page : List ℕ) where
  pub write-broken : network_refusal w ≢ 0
      → Leaves {A = Answer ℕ} (Err (network_refusal w)) (write_answer first w list page) list (write_list first w list page) page (write_page first w list page)
  unfolding write_answer write_list write_page write_refusal
  write-broken ne =
      let same = else_by-first (network_refusal w) (write_rules first w list page) ne in
      let no' = ne_eqb (network_refusal w) 0 ne in
      (rw (same, no'), (rw (same, no'), rw (same, no')))

  module _ (S : Shape) (counts : List ℕ) (time : ℕ) (passed : network_refusal w ≡ 0) (sizes : S ≡ shape w) (read : counts ≡ fills S w) (moves : time ≡ moves_made w) where
    now-fills : fills_now w ≡ counts
    now-fills = ap (λ (T : Shape). fills T w) (sym sizes) ∙ sym read

    now-step : written_step first w list ≡ step_bytes first time counts list
    unfolding written_step
    now-step = ap₂ (λ t c. step_bytes first t c list) (sym moves) now-fills

    count : variables_of (shape w) ≡ length counts
    count = sym (ap length (sym now-fills) ∙ fills-length (shape w) w)

    refusal : write_refusal first w list page ≡ counts_refusal first time counts list page
    unfolding write_refusal write_rules
    refusal = else_by-zero (network_refusal w) (write_rules first w list page) passed ∙ rw (now-step, count) refl

    pub write-counts : {said : Answer ℕ} {left written : List ℕ}
        → Leaves said (counts_answer first time counts list page) left (counts_list first time counts list page) written (counts_page first time counts list page)
        → Leaves said (write_answer first w list page) left (write_list first w list page) written (write_page first w list page)
    unfolding counts_answer counts_list counts_page write_answer write_list write_page
    write-counts (a, (l, p)) =
        (a ∙ sym (rw (refusal, now-step) refl), (l ∙ sym (rw (refusal, now-fills, count) refl), p ∙ sym (rw (refusal, now-step) refl)))
