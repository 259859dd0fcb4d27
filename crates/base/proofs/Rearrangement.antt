-- Lists that are rearrangements of each other: every element stands in both equally often, whatever the elements are, if they can be compared (`Discrete`).
-- Order: how often an element stands in a list; a rearrangement; the same notion without counting, by taking the elements of one list out of the
-- other, one by one, and that the two are the same; so rearrangements have equal length, equal sums, and the same holds of each of their elements; what
-- is made of each element, rearranged; three rows. Assumes nothing.
use Rattle.std.specs.Prelude.{◌≡◌, ◌↔◌, ◌≢◌, length}
use Rattle.std.proofs.Math.Path.{refl, ap, subst}
use Rattle.std.proofs.Common.{sym, ◌∙◌, length-append}
use mathlib.Core.HLevel.{Discrete}
use mathlib.Core.List.{List, [], ◌∷◌, ◌++◌, map, flat_map}
use Prim.Native.Nat.{ℕ, suc, ◌+◌, ◌≤◌}
use Rattle.std.proofs.Math.Decide.{ℕ_discrete}
use native.Mathlib.Omega.{arith}
use Rattle.base.specs.Tests.{EachOf}
use Rattle.base.proofs.Tests.{each_within}
use Rattle.base.specs.Sums.{sum_of}
use Rattle.base.proofs.Sums.{sum_of-append}
use Rattle.base.proofs.Joins.{sum_of-map}
use Rattle.base.specs.Rearrangement.{one_if, count, Rearranged, TakenOut, none, one, Within}

module _ {A : Type 0} (same? : Discrete A) where
  -- counting
  same-one : (a : A) (d : Dec (a ≡ a)) → one_if d ≡ 1
  unfolding one_if
  same-one a (yes e) = refl
  same-one a (no ne) = absurd (ne refl)

  -- counted is a sum of ones
  pub count-sum : (a : A) (xs : List A) → count same? a xs ≡ sum_of (λ x. one_if (same? a x)) xs
  unfolding count sum_of
  count-sum a [] = refl
  count-sum a (x ∷ xs) = ap (λ (k : ℕ). one_if (same? a x) + k) (count-sum a xs)

  pub count-append : (a : A) (xs ys : List A) → count same? a (xs ++ ys) ≡ count same? a xs + count same? a ys
  unfolding count
  count-append a [] ys = omega arith
  count-append a (x ∷ xs) ys = let e = count-append a xs ys in omega arith

  -- one element more, in front: the same one, or another
  pub count_same : (a x : A) (xs : List A) → a ≡ x → count same? a (x ∷ xs) ≡ suc (count same? a xs)
  unfolding count one_if
  count_same a x xs e = go (same? a x)
    where
      go : (d : Dec (a ≡ x)) → one_if d + count same? a xs ≡ suc (count same? a xs)
      go (yes f) = omega arith
      go (no ne) = absurd (ne e)

  pub count-other : (a x : A) (xs : List A) → a ≢ x → count same? a (x ∷ xs) ≡ count same? a xs
  unfolding count one_if
  count-other a x xs ne = go (same? a x)
    where
      go : (d : Dec (a ≡ x)) → one_if d + count same? a xs ≡ count same? a xs
      go (yes e) = absurd (ne e)
      go (no k) = omega arith

  -- what holds of each is what holds of whatever stands in the list
  of-each : (P : A → Type 0) (xs : List A) → EachOf P xs → (a : A) → count same? a xs ≢ 0 → P a
  unfolding EachOf count
  of-each P [] k a some = absurd (some refl)
  of-each P (x ∷ xs) (k, ks) a some = go (same? a x) (of-each P xs ks a)
    where
      go : Dec (a ≡ x) → (count same? a xs ≢ 0 → P a) → P a
      go (yes e) later = subst P (sym e) k
      go (no ne) later = later (λ z. some (count-other a x xs ne ∙ z))

  by-each : (P : A → Type 0) (xs : List A) → ((a : A) → count same? a xs ≢ 0 → P a) → EachOf P xs
  unfolding EachOf count
  by-each P [] h = tt
  by-each P (x ∷ xs) h = (
    h x (λ z. let e = count_same x x xs refl in omega (arith, z, e)),
    by-each P xs (λ a some. h a (λ z. some (omega (arith, z)))),
  )

  pub each-exactly : (P : A → Type 0) (xs : List A) → EachOf P xs ↔ ((a : A) → count same? a xs ≢ 0 → P a)
  each-exactly P xs = (of-each P xs, by-each P xs)

  -- one element more, wherever it stands
  pub count-within : (a x : A) (before behind : List A) → count same? a (before ++ (x ∷ behind)) ≡ one_if (same? a x) + count same? a (before ++ behind)
  unfolding count
  count-within a x before behind =
      let e = count-append a before (x ∷ behind) in
      let f = count-append a before behind in
      omega arith

  pub count-found : (a : A) (ys : List A) → count same? a ys ≢ 0 → Within same? a ys
  unfolding count one_if
  count-found a [] ne = absurd (ne refl)
  count-found a (y ∷ ys) ne = go (same? a y) (λ k. count-found a ys k) ne
    where
      go : (d : Dec (a ≡ y)) → (count same? a ys ≢ 0 → Within same? a ys) → one_if d + count same? a ys ≢ 0 → Within same? a (y ∷ ys)
      go (yes e) later some = record { before = []; behind = ys; here = ap {B = List A} (λ (z : A). z ∷ ys) (sym e) }
      go (no apart) later some =
          let w = later (λ z. some (omega (arith, z))) in
          record { before = y ∷ w.before; behind = w.behind; here = ap {B = List A} (λ (l : List A). y ∷ l) w.here }

  -- taking out
  nothing_left : (ys : List A) → Rearranged same? [] ys → ys ≡ []
  unfolding Rearranged count
  nothing_left [] r = refl
  nothing_left (y ∷ ys) r = absurd (let e = r y in let o = same-one y (same? y y) in omega arith)

  some_left : (x : A) (xs ys : List A) → Rearranged same? (x ∷ xs) ys → Within same? x ys
  unfolding Rearranged count
  some_left x xs ys r = count-found x ys (λ z. let e = r x in let o = same-one x (same? x x) in omega arith)

  rest-left : (x : A) (xs before behind : List A) → Rearranged same? (x ∷ xs) (before ++ (x ∷ behind)) → Rearranged same? xs (before ++ behind)
  unfolding Rearranged count
  rest-left x xs before behind r a = let e = r a in let f = count-within a x before behind in omega arith

  taken_out : (xs ys : List A) → Rearranged same? xs ys → TakenOut xs ys
  taken_out [] ys r = rw (nothing_left ys r) none
  taken_out (x ∷ xs) ys r =
      let w = some_left x xs ys r in
      rw w.here
      (one w.before w.behind (taken_out xs (w.before ++ w.behind) (rest-left x xs w.before w.behind (subst (Rearranged same? (x ∷ xs)) w.here r))))

  put_in : (xs ys : List A) → TakenOut xs ys → Rearranged same? xs ys
  unfolding Rearranged count
  put_in xs ys none a = refl
  put_in xs ys (one {x} {xs = us} before behind t) a = let e = put_in us (before ++ behind) t a in let f = count-within a x before behind in omega arith

  -- the two are the same notion
  pub rearranged-exactly : (xs ys : List A) → Rearranged same? xs ys ↔ TakenOut xs ys
  rearranged-exactly xs ys = (taken_out xs ys, put_in xs ys)

  pub rearranged-length : (xs ys : List A) → Rearranged same? xs ys → length xs ≡ length ys
  rearranged-length xs ys r = go xs ys (taken_out xs ys r)
    where
      go : (xs ys : List A) → TakenOut xs ys → length xs ≡ length ys
      go xs ys none = refl
      go xs ys (one {x} {xs = us} before behind t) =
          let e = go us (before ++ behind) t in
          let a = length-append before behind in
          let b = length-append before (x ∷ behind) in
          omega arith

  -- where there is no more than one element, there is one order
  pub rearranged-few : (xs ys : List A) → length xs ≤ 1 → Rearranged same? xs ys → xs ≡ ys
  rearranged-few xs ys h r = go xs ys h (rearranged-length xs ys r) (taken_out xs ys r)
    where
      go : (xs ys : List A) → length xs ≤ 1 → length xs ≡ length ys → TakenOut xs ys → xs ≡ ys
      go xs ys h e none = refl
      go xs ys h e (one {x} {xs = us} before behind t) = only us before behind h e
        where
          only : (us before behind : List A) → suc (length us) ≤ 1 → suc (length us) ≡ length (before ++ (x ∷ behind))
              → ◌≡◌ {A = List A} (x ∷ us) (before ++ (x ∷ behind))
          only [] [] [] h e = refl
          only [] [] (b ∷ bs) h e = absurd (omega arith)
          only [] (b ∷ bs) behind h e = absurd (let l = length-append bs (x ∷ behind) in omega arith)
          only (u ∷ us) before behind h e = absurd (omega arith)

  -- sums do not depend on the order
  pub rearranged-sum : (f : A → ℕ) (xs ys : List A) → Rearranged same? xs ys → sum_of f xs ≡ sum_of f ys
  unfolding sum_of
  rearranged-sum f xs ys r = go xs ys (taken_out xs ys r)
    where
      go : (xs ys : List A) → TakenOut xs ys → sum_of f xs ≡ sum_of f ys
      go xs ys none = refl
      go xs ys (one {x} {xs = us} before behind t) =
          let e = go us (before ++ behind) t in
          let a = sum_of-append f before behind in
          let b = sum_of-append f before (x ∷ behind) in
          omega arith

  -- nor does what holds of each
  pub rearranged-each : (P : A → Type 0) (xs ys : List A) → Rearranged same? xs ys → EachOf P xs → EachOf P ys
  unfolding EachOf
  rearranged-each P xs ys r = go xs ys (taken_out xs ys r)
    where
      go : (xs ys : List A) → TakenOut xs ys → EachOf P xs → EachOf P ys
      go xs ys none k = tt
      go xs ys (one {x} {xs = us} before behind t) (k, ks) = each_within P x before behind k (go us (before ++ behind) t ks)

-- what is made of each element, one thing or a list of them: how often something stands there, and that it is rearranged with the elements
module _ {A B : Type 0} (same? : Discrete B) where
  pub count_map : (f : A → B) (b : B) (xs : List A) → count same? b (map f xs) ≡ sum_of (λ x. one_if (same? b (f x))) xs
  count_map f b xs = count-sum same? b (map f xs) ∙ sum_of-map (λ y. one_if (same? b y)) f xs

  pub count-flat : (f : A → List B) (b : B) (xs : List A) → count same? b (flat_map f xs) ≡ sum_of (λ x. count same? b (f x)) xs
  unfolding flat_map count sum_of
  count-flat f b [] = refl
  count-flat f b (x ∷ xs) = let e = count-append same? b (f x) (flat_map f xs) in let k = count-flat f b xs in omega arith

pub rearranged-map : {A B : Type 0} (same_a? : Discrete A) (same_b? : Discrete B) (f : A → B) (xs ys : List A) → Rearranged same_a? xs ys
    → Rearranged same_b? (map f xs) (map f ys)
unfolding Rearranged
rearranged-map same_a? same_b? f xs ys r b =
    count_map same_b? f b xs ∙ rearranged-sum same_a? (λ x. one_if (same_b? b (f x))) xs ys r ∙ sym (count_map same_b? f b ys)

pub rearranged-flat : {A B : Type 0} (same_a? : Discrete A) (same_b? : Discrete B) (f : A → List B) (xs ys : List A) → Rearranged same_a? xs ys
    → Rearranged same_b? (flat_map f xs) (flat_map f ys)
unfolding Rearranged
rearranged-flat same_a? same_b? f xs ys r b =
    count-flat same_b? f b xs ∙ rearranged-sum same_a? (λ x. count same_b? b (f x)) xs ys r ∙ sym (count-flat same_b? f b ys)

-- three rows of numbers: 3, 5, 3 are a rearrangement of 5, 3, 3
pub another-order : Rearranged ℕ_discrete (3 ∷ 5 ∷ 3 ∷ []) (5 ∷ 3 ∷ 3 ∷ [])
unfolding Rearranged count
another-order a = omega arith

-- 3, 5 are none of 3, 3
pub another-number : Rearranged ℕ_discrete (3 ∷ 5 ∷ []) (3 ∷ 3 ∷ []) → ⊥
unfolding Rearranged count one_if ℕ_discrete
another-number r = let e : ◌≡◌ {A = ℕ} 1 0 = r 5 in omega arith

-- and 3, 3 are none of 3
pub one-doubled : Rearranged ℕ_discrete (3 ∷ 3 ∷ []) (3 ∷ []) → ⊥
unfolding Rearranged count one_if ℕ_discrete
one-doubled r = let e : ◌≡◌ {A = ℕ} 2 1 = r 3 in omega arith
