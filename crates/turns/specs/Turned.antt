-- A turn at each place where the code returns: what it came to, the words, the set of heads and the table of loads, as its contract says them. Order: what
-- goes along with the words; the turn by a move; the whole turn. Assumes nothing.
use Rattle.std.specs.Prelude.{◌≡◌, ◌≢◌, ℕ, Option, None, Some, Err}
use Rattle.std.proofs.Math.Path.{refl, ap, subst}
use Rattle.std.proofs.Common.{sym, ◌∙◌}
use mathlib.Core.List.{List}
use Rattle.network.specs.declared.NamedMove.{NamedMove}
use Rattle.network.specs.declared.Stop.{Stop}
use Rattle.network.specs.Sizes.{Shape}
use Rattle.network.specs.TorusLaws.{Torus}
use Rattle.network.specs.Layout.{held, accepted, delivered}
use Rattle.network.specs.CheckLaws.{Network}
use Rattle.network.specs.Refusals.{head}
use Rattle.network.specs.RefusalLaws.{Permitted}
use Rattle.network.specs.Calls.{after_move, first_move, move_of}
use Rattle.turns.specs.declared.Turn.{Turn}
use Rattle.turns.specs.Turns.{turn_by, made_by, by_words, unless_stopped, turn_answer, turn_words, by-passed, by-full, by-delivered, words-moved, turn-emptied, turn-spent, turn_by-some, turn-by-words, stopped-words, none-held, some-held}
use Rattle.ready.specs.ReadyHeads.{Covered, Marked, covered-moved}
use Rattle.loads.specs.Loads.{Loads}

-- what goes along with the words of a Drain: a set that covers every head which has a permitted move, and a table of their loads
pub record Kept (S : Shape) (w set loads : List ℕ) : Type 0 where
  pub covered : Covered S w set
  pub loaded : Loads S w loads

-- what the contract of the turn by a move says
abbrev pub TurnedBy : Shape → List ℕ → ℕ → Option NamedMove → Turn → List ℕ → List ℕ → List ℕ → Type 0
TurnedBy S w room f t v after table = (t ≡ turn_by S w room f) × ((v ≡ by_words S w room f) × Kept S (by_words S w room f) after table)

module _ (S : Shape) (tor : Torus S) (w set loads : List ℕ) (N : Network S w) (c : Kept S w set loads) where
  moved_by : (room n q o : ℕ) (t : Turn) (v after table : List ℕ) → Permitted S w n q o → Marked S n q o set after → Loads S (after_move S w n q o) table
      → v ≡ after_move S w n q o → turn_by S w room (Some (move_of n q o)) ≡ t → unless_stopped t (after_move S w n q o) w ≡ after_move S w n q o
      → TurnedBy S w room (Some (move_of n q o)) t v after table
  moved_by room n q o t v after table P m l ev et eu =
      let words : after_move S w n q o ≡ by_words S w room (Some (move_of n q o)) = sym eu ∙ words-moved S w room n q o t et in
      let kept : Kept S (after_move S w n q o) after table = record { covered = covered-moved S w set after n q o tor N P c.covered m; loaded = l } in
      (sym et, (ev ∙ words, subst (λ (x : List ℕ). Kept S x after table) words kept))

  pub turned-passed : (room n q o : ℕ) (v after table : List ℕ) → Permitted S w n q o → Marked S n q o set after → Loads S (after_move S w n q o) table
      → v ≡ after_move S w n q o → o ≢ 0 → TurnedBy S w room (Some (move_of n q o)) Turn.Passed v after table
  unfolding unless_stopped
  turned-passed room n q o v after table P m l ev ne = moved_by room n q o Turn.Passed v after table P m l ev (by-passed S w room n q o ne) refl

  pub turned-delivered : (room n q o p : ℕ) (v after table : List ℕ) → Permitted S w n q o → Marked S n q o set after → Loads S (after_move S w n q o) table
      → v ≡ after_move S w n q o → o ≡ 0 → room ≢ 0 → p ≡ head (held S w n q) → TurnedBy S w room (Some (move_of n q o)) (Turn.Delivered p) v after table
  unfolding unless_stopped
  turned-delivered room n q o p v after table P m l ev z ne h =
      moved_by room n q o (Turn.Delivered p) v after table P m l ev (by-delivered S w room n q o p z ne h) refl

  pub turned-full : (room n q o : ℕ) → o ≡ 0 → room ≡ 0 → TurnedBy S w room (Some (move_of n q o)) (Turn.Stopped Stop.Full) w set loads
  unfolding unless_stopped by_words
  turned-full room n q o z r =
      let et : turn_by S w room (Some (move_of n q o)) ≡ Turn.Stopped Stop.Full = by-full S w room n q o z r in
      let words : w ≡ by_words S w room (Some (move_of n q o)) = ap (λ (t : Turn). unless_stopped t (made_by S w (Some (move_of n q o))) w) (sym et) in
      (sym et, (words, subst (λ (x : List ℕ). Kept S x set loads) words c))

-- what the contract of a turn says
abbrev pub Turned : Shape → List ℕ → ℕ → ℕ → Turn → List ℕ → List ℕ → List ℕ → Type 0
Turned S w budget room t v after table = (t ≡ turn_answer S w budget room) × ((v ≡ turn_words S w budget room) × Kept S (turn_words S w budget room) after table)

module _ (S : Shape) (w set loads : List ℕ) (N : Network S w) (c : Kept S w set loads) (budget room : ℕ) where
  stops-here : (why : Stop) (after : List ℕ) → Covered S w after → turn_answer S w budget room ≡ Turn.Stopped why
      → Turned S w budget room (Turn.Stopped why) w after loads
  stops-here why after d e =
      let words : w ≡ turn_words S w budget room = stopped-words S w budget room why e in
      let kept : Kept S w after loads = record { covered = d; loaded = c.loaded } in
      (sym e, (words, subst (λ (x : List ℕ). Kept S x after loads) words kept))

  pub turned-emptied : accepted w ≡ delivered w → Turned S w budget room (Turn.Stopped Stop.Emptied) w set loads
  turned-emptied e = stops-here Stop.Emptied set c.covered (turn-emptied S w budget room (none-held S w N e))

  pub turned-spent : (accepted w ≡ delivered w → ⊥) → budget ≡ 0 → Turned S w budget room (Turn.Stopped Stop.Spent) w set loads
  turned-spent ne z = stops-here Stop.Spent set c.covered (turn-spent S w budget room (some-held S w N ne) z)

  -- First names none: it does not come up, and is answered as the definition says
  pub turned-nowhere : (f : Option NamedMove) (after : List ℕ) → (accepted w ≡ delivered w → ⊥) → budget ≢ 0 → f ≡ first_move S w → turn_by S w room f ≡ Turn.Stopped Stop.Emptied
      → Covered S w after → Turned S w budget room (Turn.Stopped Stop.Emptied) w after loads
  turned-nowhere f after ne nb e t d = stops-here Stop.Emptied after d (sym (turn_by-some S w budget room f (some-held S w N ne) nb e) ∙ t)

  pub turned_by : (f : Option NamedMove) (t : Turn) (v after table : List ℕ) → (accepted w ≡ delivered w → ⊥) → budget ≢ 0 → f ≡ first_move S w
      → TurnedBy S w room f t v after table → Turned S w budget room t v after table
  turned_by f t v after table ne nb e x =
      let words : by_words S w room f ≡ turn_words S w budget room = turn-by-words S w budget room f (some-held S w N ne) nb e in
      (x.0 ∙ turn_by-some S w budget room f (some-held S w N ne) nb e, (x.1.0 ∙ words, subst (λ (y : List ℕ). Kept S y after table) words x.1.1))

pub by-nothing : (S : Shape) (w : List ℕ) (room : ℕ) (f : Option NamedMove) → f ≡ None → turn_by S w room f ≡ Turn.Stopped Stop.Emptied
unfolding turn_by
by-nothing S w room f e = ap (turn_by S w room) e
