-- From step to step the list of fills is the store's, and the first bytes of the page are the step that the words tell (R423): `command-tells`, `move-tells`.
-- Order: the start; a whole step; what a step leaves of the words before it; a command; a move of a D. Assumes nothing.
use Rattle.std.specs.Prelude.{◌≡◌, refl, Bool, true, false, ◌⊎◌, List, [], ◌∷◌, ℕ, ◌<◌, ◌≤◌, length, get_or, drop}
use Rattle.std.proofs.Common.{ap, sym, ◌∙◌, subst, true≢false, inl, inr, arith, eqb-true, get_or-take, take_at}
use Rattle.std.proofs.Math.Seq.{take-append_seam}
use Rattle.network.proofs.SizesLaws.{range-of}
use Rattle.network.specs.Layout.{shape, moves_made}
use Rattle.network.specs.Refusals.{network_refusal, offer_refusal, offer_rules}
use Rattle.network.proofs.RefusalLaws.{neither, network-passed}
use Rattle.network.specs.Calls.{move_of, make_words, offer_words, move_words}
use Rattle.network.specs.Run.{move, outcome, run, Demand3}
use Rattle.network.proofs.CallLaws.{offer-call}
use Rattle.run.specs.Theorem.{demand3}
use Rattle.sheet.specs.declared.Command.{Command}
use Rattle.session.specs.Session.{perform, new_store}
use Rattle.session.specs.Reads.{sheet, start_sheet}
use Rattle.waveform.specs.Dump.{variables_of}
use Rattle.waveform.proofs.DumpLaws.{fills-length, step_same}
use Rattle.waveform.specs.Calls.{fills_now, written_step}
use Rattle.replay.specs.Replay.{Shown, shown, shown_if, carried_out, changed, begins_dump, command_shown, moved_on, makes_move, move_shown, step_behind, command_bytes, move_bytes, FillsOf}
use Rattle.replay.specs.ReplayLaws.{NoMoveMade, NextMoveMade}
use Rattle.replay.proofs.ReplayLaws.{move-told}
use Rattle.replay.specs.Whole.{Roomy, whole_step}
use Rattle.replay.proofs.Whole.{moved-network, command-whole, move-whole}
use Rattle.replay.specs.FillsLaws.{Follows, Tells}

-- before the first T the store is no network
zeros-pass-not : network_refusal new_store ≡ 0 → ⊥
unfolding shape
zeros-pass-not z = let low : 1 ≤ 0 = (range-of (shape new_store) (network-passed new_store z).in-range).injection.low in omega arith

pub fills-start : (store buffer list : List ℕ) (pending : ℕ) → sheet store buffer pending ≡ start_sheet buffer → FillsOf store list
unfolding FillsOf start_sheet
fills-start store buffer list pending e z = absurd (zeros-pass-not (ap (λ s. network_refusal s.store) (sym e) ∙ z))

-- a step that is written whole on a list that is the store's
step-told : (first : Bool) (w v list : List ℕ) → (first ≡ false → Follows w v) → FillsOf w list → written_step first v list ≡ step_behind first w v
unfolding written_step step_behind FillsOf
step-told first w v list later is = step_same first (moves_made v) (fills_now v) list (fills_now w) (λ j h f. same j h (later f))
  where
    same : (j : ℕ) → j < length (fills_now v) → Follows w v → get_or list j 0 ≡ get_or (fills_now w) j 0
    same j h f =
        let l = fills-length (shape v) v in
        let n = ap variables_of f.same_shape in
        sym (get_or-take (variables_of (shape w)) list j 0 (omega arith)) ∙ ap (λ t. get_or t j 0) (is f.network)

whole_tells : (first : Bool) (w v list page : List ℕ) → (first ≡ false → Follows w v) → FillsOf w list → Tells (step_behind first w v) v (whole_step first v list page)
unfolding whole_step FillsOf
whole_tells first w v list page later is =
    record {
      page = take-append_seam (written_step first v list) (drop (length (written_step first v list)) page) ∙ step-told first w v list later is;
      list = λ z. take_at (fills_now v) (drop (variables_of (shape v)) list) (variables_of (shape v)) (fills-length (shape v) v);
    }

-- a command that changes something and begins no dump, and one that changes nothing
command-follows : (c : Command) (w : List ℕ) → changed c w ≡ true → begins_dump c ≡ false → Follows w (carried_out c w)
unfolding changed begins_dump carried_out perform offer_refusal run outcome Demand3
command-follows (Command.Make x y z e a j) w t f = absurd (true≢false f)
command-follows (Command.Offer node destination tag chunks) w t f =
    let z = eqb-true _ 0 t in
    record {
      network = (neither (network_refusal w) (offer_rules (shape w) w node destination chunks) z).0;
      same_shape = (offer-call w node destination tag chunks z).kept.same_shape;
    }
command-follows (Command.Move node queue output) w t f =
    let z = moved-network w node queue output (eqb-true _ 0 t) in
    record { network = z; same_shape = (demand3 w (move (move_of node queue output) ∷ []) z).same_shape }
command-follows (Command.Drain budget) w t f = absurd (true≢false (sym t))
command-follows Command.Bad w t f = absurd (true≢false (sym t))

command-idle : (c : Command) (w : List ℕ) → changed c w ≡ false → carried_out c w ≡ w
unfolding changed carried_out perform make_words offer_words move_words
command-idle (Command.Make x y z e a j) w f = rw f refl
command-idle (Command.Offer node destination tag chunks) w f = rw f refl
command-idle (Command.Move node queue output) w f = rw f refl
command-idle (Command.Drain budget) w f = refl
command-idle Command.Bad w f = refl

-- by whether something has changed
command-some : (c : Command) (w : List ℕ) → changed c w ≡ true → command_bytes c w ≡ step_behind (begins_dump c) w (carried_out c w)
unfolding command_bytes
command-some c w t = rw t refl

command-none : (c : Command) (w list page : List ℕ) → changed c w ≡ false → (command_bytes c w ≡ []) × (command_shown c w list page ≡ shown 0 list page)
unfolding command_bytes command_shown shown_if
command-none c w list page f = (rw f refl, rw f refl)

move-some-bytes : (w : List ℕ) (room : ℕ) → makes_move w room ≡ true → move_bytes w room ≡ step_behind false w (moved_on w room)
unfolding move_bytes
move-some-bytes w room t = rw t refl

move-none-bytes : (w : List ℕ) (room : ℕ) (list page : List ℕ) → makes_move w room ≡ false → (move_bytes w room ≡ []) × (move_shown w room list page ≡ shown 0 list page)
unfolding move_bytes move_shown shown_if
move-none-bytes w room list page f = (rw f refl, rw f refl)

none-tells : (w v list page : List ℕ) → v ≡ w → FillsOf w list → Tells [] v (shown 0 list page)
none-tells w v list page e is = record { page = refl; list = subst (λ u. FillsOf u list) (sym e) is }

-- for a store of so many words, and a list and a page for every network that it can hold
module _ (words : ℕ) (w list page : List ℕ) (roomy : Roomy words list page) (few : length w ≤ words) (is : FillsOf w list) where
  pub command-tells : (c : Command) {v : List ℕ} {s : Shown} → v ≡ carried_out c w → s ≡ command_shown c w list page → Tells (command_bytes c w) v s
  command-tells c {v} {s} e h = rw (e, h) (go (changed c w) refl)
    where
      go : (t : Bool) → changed c w ≡ t → Tells (command_bytes c w) (carried_out c w) (command_shown c w list page)
      go true t =
          rw (command-some c w t, command-whole words c w list page roomy few t)
          (whole_tells (begins_dump c) w (carried_out c w) list page (command-follows c w t) is)
      go false t =
          let (bytes, same) = command-none c w list page t in
          rw (bytes, same) (none-tells w (carried_out c w) list page (command-idle c w t) is)

  pub move-tells : (room : ℕ) {v : List ℕ} {s : Shown} → v ≡ moved_on w room → s ≡ move_shown w room list page → Tells (move_bytes w room) v s
  move-tells room {v} {s} e h = rw (e, h) (by (move-told w room))
    where
      by : NoMoveMade w room ⊎ NextMoveMade w room → Tells (move_bytes w room) (moved_on w room) (move_shown w room list page)
      by (inl s) =
          let (bytes, same) = move-none-bytes w room list page s.none in
          rw (bytes, same) (none-tells w (moved_on w room) list page s.same is)
      by (inr g) =
          rw (move-some-bytes w room g.one, move-whole words w room list page roomy few g.one)
          (whole_tells false w (moved_on w room) list page (λ f. record { network = g.network; same_shape = g.same_shape }) is)
