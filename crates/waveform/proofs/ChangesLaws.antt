-- What the helpers of a step's changes state, said without them: by the changes that stand in a list, and by the places of a list of fills. `IsTold` is the
-- library's notion of standing in a list. Order: what is told; what it needs; what it leaves in a list. That variables rise, and so each is told once, is
-- `changes-rise` (ReadingLaws.antt). Assumes nothing.
use Rattle.std.specs.Prelude.{◌≡◌, refl, ◌≢◌, ◌↔◌, ◌⊎◌, Bool, true, false, not, cond, ℕ, zero, suc, ◌<◌, ◌≤◌, eqb, length, get_or, set}
use Rattle.std.proofs.Common.{ap, ap₂, sym, ◌∙◌, subst, inl, inr, true≢false, eq-or-lt_of_le, le_of_suc-le-suc, not-suc-le-zero, arith, eq-eqb, ne_eqb, length-set, get_or-set_same, get_or-set_other}
use Rattle.std.proofs.lemmas.Bool.{false≢true, eqb-false, not-true}
use mathlib.Core.List.Memᴰ
use mathlib.Core.List.{List, [], ◌∷◌, ◌++◌, append-nil, Memᴰ}
use Rattle.waveform.specs.Dump.{stamp_line, Change, value_lines, tells, changes_to, changes, step_bytes}
use Rattle.waveform.specs.Reading.{needed_from, needed, applied}
use Rattle.waveform.specs.DumpLaws.{change_at}
use Rattle.waveform.specs.ReadingLaws.{Rising}
use Rattle.waveform.specs.ChangesLaws.{IsTold, Differs, Due}

pub tells-exactly : (every : Bool) (counts list : List ℕ) (i : ℕ) → (tells every counts list i ≡ true) ↔ Differs every counts list i
unfolding tells
tells-exactly true counts list i = ((λ e. inl refl), (λ d. refl))
tells-exactly false counts list i = ((λ e. inr (eqb-false a b (not-true (eqb a b) e))), by)
  where
    a : ℕ
    a = get_or counts i 0

    b : ℕ
    b = get_or list i 0

    by : (false ≡ true) ⊎ (a ≢ b) → not (eqb a b) ≡ true
    by (inl e) = absurd (false≢true e)
    by (inr ne) = ap not (ne_eqb a b ne)

-- `changes_to`, `changes`: what is told is what is due, no more and no less
pub changes_to-exactly : (every : Bool) (counts list : List ℕ) (i : ℕ) (c : Change)
    → IsTold c (changes_to every counts list i) ↔ Due every counts list i c
unfolding changes_to
changes_to-exactly every counts list zero c = ((λ m. absurd (Memᴰ.not-nil m)), (λ d. absurd (not-suc-le-zero d.below)))
changes_to-exactly every counts list (suc i) c =
    let e = changes_to-exactly every counts list i c in (
      (λ m. of (tells every counts list i) (tells-exactly every counts list i).0 e.0 (Memᴰ.append_cases before m)),
      (λ d. by (tells every counts list i) refl e.1 d (eq-or-lt_of_le (le_of_suc-le-suc d.below))),
    )
  where
    before : List Change
    before = changes_to every counts list i

    one : Bool → List Change
    one t = cond t (change_at counts i ∷ []) []

    of : (t : Bool) → (t ≡ true → Differs every counts list i) → (IsTold c before → Due every counts list i c) → IsTold c before ⊎ IsTold c (one t)
        → Due every counts list (suc i) c
    of t differs earlier (inl m) = let d : Due every counts list i c = earlier m in
        record { below = let h = d.below in omega arith; fill = d.fill; differs = d.differs }
    of true differs earlier (inr m) =
        let e : c ≡ change_at counts i = Memᴰ.eq_of_singleton m in
        let v : c.variable ≡ i = ap (λ (d : Change). d.variable) e in
        record {
          below = omega arith;
          fill = ap (λ (d : Change). d.fill) e ∙ ap (λ j. get_or counts j 0) (sym v);
          differs = subst (Differs every counts list) (sym v) (differs refl);
        }
    of false differs earlier (inr m) = absurd (Memᴰ.not-nil m)

    by : (t : Bool) → tells every counts list i ≡ t → (Due every counts list i c → IsTold c before) → Due every counts list (suc i) c
        → (c.variable ≡ i) ⊎ (c.variable < i)
        → IsTold c (before ++ one t)
    by t is earlier d (inr h) = Memᴰ.append_left (one t) (earlier (record { below = h; fill = d.fill; differs = d.differs }))
    by true is earlier d (inl v) =
        Memᴰ.append_right before (Memᴰ.head (ap₂ (λ a b. record { variable = a; fill = b }) v (d.fill ∙ ap (λ j. get_or counts j 0) v)))
    by false is earlier d (inl v) =
        absurd (true≢false (sym ((tells-exactly every counts list i).1 (subst (Differs every counts list) v d.differs)) ∙ is))

pub changes-exactly : (every : Bool) (counts list : List ℕ) (c : Change)
    → IsTold c (changes every counts list) ↔ Due every counts list (length counts) c
unfolding changes
changes-exactly every counts list c = changes_to-exactly every counts list (length counts) c

-- R409: where the list has the fills already, a later step is its time stamp
none_told : (counts list : List ℕ) (i : ℕ) → ((j : ℕ) → j < i → get_or counts j 0 ≡ get_or list j 0) → changes_to false counts list i ≡ []
unfolding changes_to tells
none_told counts list zero same = refl
none_told counts list (suc i) same =
    ap₂ (λ cs t. cs ++ cond t (change_at counts i ∷ []) [])
    (none_told counts list i (λ j h. same j (omega arith)))
    (ap not (eq-eqb (get_or counts i 0) (get_or list i 0) (same i (omega arith))))

pub unchanged-stamp : (time : ℕ) (counts list : List ℕ) → ((j : ℕ) → j < length counts → get_or counts j 0 ≡ get_or list j 0)
    → step_bytes false time counts list ≡ stamp_line time
unfolding step_bytes changes value_lines
unchanged-stamp time counts list same =
    ap (λ cs. stamp_line time ++ value_lines cs) (none_told counts list (length counts) same) ∙ append-nil (stamp_line time)

-- What it needs (R418) --------------------------------------------------------------------------------------------------------------------

-- no variable stands before `from`
rising-from : (from : ℕ) (cs : List Change) (c : Change) → Rising from cs → IsTold c cs → from ≤ c.variable
unfolding Rising
rising-from from [] c r m = absurd (Memᴰ.not-nil m)
rising-from from (d ∷ cs) c (s, h, r) (Memᴰ.head e) = let v : c.variable ≡ d.variable = ap (λ (a : Change). a.variable) e in omega arith
rising-from from (d ∷ cs) c (s, h, r) (Memᴰ.tail m) = let l = rising-from (suc d.variable) cs c r m in omega arith

-- `needed`: lists that are long enough are those that have every variable told
needed-from : (from : ℕ) (cs : List Change) (n : ℕ) → Rising from cs
    → (needed_from from cs ≤ n) ↔ ((from ≤ n) × ((c : Change) → IsTold c cs → c.variable < n))
unfolding Rising needed_from
needed-from from [] n r = ((λ h. (h, λ c m. absurd (Memᴰ.not-nil m))), (λ e. e.0))
needed-from from (d ∷ cs) n (s, l, r) =
    let e = needed-from (suc d.variable) cs n r in (
      (λ h. let (below, later) = e.0 h in (omega arith, each below later)),
      (λ a. e.1 (a.1 d (Memᴰ.head refl), λ c m. a.1 c (Memᴰ.tail m))),
    )
  where
    each : d.variable < n → ((c : Change) → IsTold c cs → c.variable < n) → (c : Change) → IsTold c (d ∷ cs) → c.variable < n
    each below later c (Memᴰ.head e) = let v : c.variable ≡ d.variable = ap (λ (a : Change). a.variable) e in omega arith
    each below later c (Memᴰ.tail m) = later c m

pub needed-exactly : (cs : List Change) (n : ℕ) → Rising 0 cs → (needed cs ≤ n) ↔ ((c : Change) → IsTold c cs → c.variable < n)
needed-exactly cs n r = let e = needed-from 0 cs n r in ((λ h. (e.0 h).1), (λ a. e.1 (omega arith, a)))

-- What it leaves in a list (R416) ---------------------------------------------------------------------------------------------------------

-- `applied`: as long as it was; a variable that is not told keeps its fill; one that is told has the fill that is told
pub applied-length : (cs : List Change) (list : List ℕ) → length (applied cs list) ≡ length list
unfolding applied
applied-length [] list = refl
applied-length (c ∷ cs) list = applied-length cs (set list c.variable c.fill) ∙ length-set list c.variable c.fill

pub applied-untold : (cs : List Change) (list : List ℕ) (j : ℕ) → ((c : Change) → IsTold c cs → c.variable ≢ j)
    → get_or (applied cs list) j 0 ≡ get_or list j 0
unfolding applied
applied-untold [] list j other = refl
applied-untold (c ∷ cs) list j other =
    applied-untold cs (set list c.variable c.fill) j (λ d m. other d (Memᴰ.tail m))
    ∙ get_or-set_other list c.variable j c.fill 0 (λ e. other c (Memᴰ.head refl) (sym e))

pub applied-told : (from : ℕ) (cs : List Change) (list : List ℕ) (c : Change) → Rising from cs → IsTold c cs → c.variable < length list
    → get_or (applied cs list) c.variable 0 ≡ c.fill
unfolding Rising applied
applied-told from [] list c r m h = absurd (Memᴰ.not-nil m)
applied-told from (d ∷ cs) list c (s, l, r) (Memᴰ.head e) h =
    let v : c.variable ≡ d.variable = ap (λ (a : Change). a.variable) e in
    let next : List ℕ = set list d.variable d.fill in
    applied-untold cs next c.variable (λ a m z. let b : suc d.variable ≤ a.variable = rising-from (suc d.variable) cs a r m in absurd (omega arith))
    ∙ ap (λ j. get_or next j 0) v
    ∙ get_or-set_same list d.variable d.fill 0 (omega arith)
    ∙ sym (ap (λ (a : Change). a.fill) e)
applied-told from (d ∷ cs) list c (s, l, r) (Memᴰ.tail m) h =
    applied-told (suc d.variable) cs (set list d.variable d.fill) c r m (let k = length-set list d.variable d.fill in omega arith)
