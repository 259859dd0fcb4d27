-- What each helper of Run.antt states, said without it, in the lists of InLists.antt. Order: a label counted; all that is held; what was handed out; a packet at
-- at-destination; moves that lead from words to words; some move; ledgers. Assumes nothing.
use Rattle.std.specs.Prelude.{List, map, ℕ, length, take, drop}
use Rattle.network.specs.Run.{Ledger}

-- Ledgers ---------------------------------------------------------------------------------------------------------------------------------

abbrev pub lefts : List Ledger → List ℕ
lefts Ls = map (λ (L : Ledger). length L.left) Ls

abbrev pub lents : List Ledger → List ℕ
lents Ls = map (λ (L : Ledger). length L.lent) Ls

abbrev pub takens : List Ledger → List ℕ
takens Ls = map (λ (L : Ledger). length (take L.written L.left)) Ls

abbrev pub writtens : List Ledger → List ℕ
writtens Ls = map (λ (L : Ledger). L.written) Ls

abbrev pub left_behind : List Ledger → List (List ℕ)
left_behind Ls = map (λ (L : Ledger). drop L.written L.left) Ls

abbrev pub lent_behind : List Ledger → List (List ℕ)
lent_behind Ls = map (λ (L : Ledger). drop L.written L.lent) Ls
