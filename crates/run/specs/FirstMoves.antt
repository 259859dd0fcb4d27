-- R127, R208, R225: over every list of calls, from all words, the moves of each Drain are those that First names one after the other. Assumes nothing.
use Rattle.std.specs.Prelude.{◌≡◌, refl, List, [], ◌∷◌, ℕ, length}
use Rattle.std.proofs.Math.Decide.{ℕ_discrete}
use Rattle.std.proofs.Common.{eq-eqb, ne_eqb}
use Rattle.network.specs.Layout.{shape}
use Rattle.network.specs.CheckLaws.{Network}
use Rattle.network.specs.Refusals.{network_refusal}
use Rattle.network.proofs.RefusalLaws.{network-passed}
use Rattle.network.specs.Calls.{drained, drain_words}
use Rattle.network.proofs.CallLaws.{torus}
use Rattle.network.specs.Run.{Call, move, drain, outcome}
use Rattle.network.specs.FirstMoves.{ByFirst, DrainsByFirst}
use Rattle.run.specs.DrainMoves.{drain-by-first}

-- one Drain; a refused one makes no move
drain-picks : (budget : ℕ) (ledger w : List ℕ) → ByFirst w (outcome (drain budget ledger) w).moves (outcome (drain budget ledger) w).words
unfolding outcome drain_words drained ByFirst
drain-picks budget ledger w = go (ℕ_discrete (network_refusal w) 0)
  where
    go : Dec (network_refusal w ≡ 0) → ByFirst w (outcome (drain budget ledger) w).moves (outcome (drain budget ledger) w).words
    go (yes e) =
        let N : Network (shape w) w = network-passed w e in
        rw (eq-eqb (network_refusal w) 0 e) (drain-by-first (shape w) (torus w N) budget (length ledger) w refl N)
    go (no ne) = rw (ne_eqb (network_refusal w) 0 ne) refl

pub drains-by-first : (calls : List Call) (w : List ℕ) → DrainsByFirst calls w
unfolding DrainsByFirst
drains-by-first [] w = tt
drains-by-first (move m ∷ calls) w = drains-by-first calls (outcome (move m) w).words
drains-by-first (drain budget ledger ∷ calls) w = (drain-picks budget ledger w, drains-by-first calls (outcome (drain budget ledger) w).words)
