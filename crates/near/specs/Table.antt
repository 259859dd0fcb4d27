-- A table with an entry for each direction of each node: entry directions * n + d is for direction d of node n. A table of neighbours is one; that of the
-- crate `loads` is another. Order: its first entries; one of them put in; what is read from it. Assumes nothing.
use Rattle.std.specs.Prelude.{◌≡◌, List, ◌≢◌, ℕ, ◌+◌, ◌*◌, ◌/◌, ◌%◌, ◌<◌, ◌≤◌, length, get_or, set}
use Rattle.std.proofs.Common.{ap, ap₂, ◌∙◌, not-suc-le-zero, arith, length-set, get_or-set_same, get_or-set_other}
use Rattle.std.proofs.Math.Decide.{ℕ_discrete}
use Rattle.network.specs.Sizes.{Shape, nodes, directions}
use Rattle.network.specs.Torus.{neighbour}

-- its first entries, so many of them, are what f says of the direction and the node; it may be longer than the network needs
pub record TableTo (S : Shape) (f : ℕ → ℕ → ℕ) (count : ℕ) (table : List ℕ) : Type 0 where
  pub entries : directions * nodes S ≤ length table
  pub at : (i : ℕ) → i < count → get_or table i 0 ≡ f (i % directions) (i / directions)

-- for all nodes
abbrev pub Table : Shape → (ℕ → ℕ → ℕ) → List ℕ → Type 0
Table S f table = TableTo S f (directions * nodes S) table

-- of neighbours
abbrev pub NearTo : Shape → ℕ → List ℕ → Type 0
NearTo S count near = TableTo S (neighbour S) count near

abbrev pub Near : Shape → List ℕ → Type 0
Near S near = Table S (neighbour S) near

pub table_none : (S : Shape) (f : ℕ → ℕ → ℕ) (table : List ℕ) → directions * nodes S ≤ length table → TableTo S f 0 table
table_none S f table e = record { entries = e; at = λ i h. absurd (not-suc-le-zero h) }

-- the entry of one direction of one node put in: all that count are right if the others were
pub table-put : (S : Shape) (f : ℕ → ℕ → ℕ) (table : List ℕ) (count k v d n : ℕ) → directions * nodes S ≤ length table → k < directions * nodes S
    → k ≡ directions * n + d → d < directions → v ≡ f d n
    → ((i : ℕ) → i < count → i ≢ k → get_or table i 0 ≡ f (i % directions) (i / directions)) → TableTo S f count (set table k v)
table-put S f table count k v d n w h ek hd ev others =
    record {
      entries = let l = length-set table k v in omega arith;
      at = λ i l. go i l (ℕ_discrete i k);
    }
  where
    go : (i : ℕ) → i < count → Dec (i ≡ k) → get_or (set table k v) i 0 ≡ f (i % directions) (i / directions)
    go i l (yes e) =
        ap (λ (j : ℕ). get_or (set table k v) j 0) e
        ∙ get_or-set_same table k v 0 (omega arith)
        ∙ ev
        ∙ ap₂ f (let x : d ≡ i % directions = omega arith in x) (let y : n ≡ i / directions = omega arith in y)
    go i l (no ne) = get_or-set_other table k i v 0 ne ∙ others i l ne

-- one more
pub table_more : {S : Shape} {f : ℕ → ℕ → ℕ} {table : List ℕ} (k v d n : ℕ) → TableTo S f k table → k < directions * nodes S → k ≡ directions * n + d → d < directions
    → v ≡ f d n → TableTo S f (k + 1) (set table k v)
table_more {S} {f} {table} k v d n t h ek hd ev = table-put S f table (k + 1) k v d n t.entries h ek hd ev (λ i l ne. t.at i (omega arith))

-- every node has its entries
pub entry-within : {S : Shape} {f : ℕ → ℕ → ℕ} {table : List ℕ} (n d : ℕ) → Table S f table → n < nodes S → d < directions → directions * n + d < length table
entry-within n d t h hd = let e = t.entries in omega arith

pub entry_at : (S : Shape) (f : ℕ → ℕ → ℕ) (table : List ℕ) (n d : ℕ) → Table S f table → n < nodes S → d < directions → get_or table (directions * n + d) 0 ≡ f d n
entry_at S f table n d t h hd =
    t.at (directions * n + d) (omega arith) ∙ ap₂ f (let x : (directions * n + d) % directions ≡ d = omega arith in x) (let y : (directions * n + d) / directions ≡ n = omega arith in y)
