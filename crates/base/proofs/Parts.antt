-- A part of a list of words, from place a up to place e, and the list with that part replaced.
-- Order: the two definitions; their lengths; what is read at a place; the part itself, and what lies outside it; a part put back, a word set, a part put in twice.
-- Assumes nothing.
use Rattle.std.specs.Prelude.{◌≡◌, List, ◌++◌, ◌⊎◌, ℕ, ◌+◌, ◌-◌, ◌<◌, ◌≤◌, length, get_or, take, drop, set}
use Rattle.std.proofs.Common.{ap, ap₂, sym, ◌∙◌, inl, inr, arith, length-append, length-drop, length-take-le, get_or-take, get_or-drop, get_or-append-add, ext_get_or, drop-set-lt, take_at, drop_at}
use Rattle.std.proofs.Math.ListN.{get_or-append}
use Rattle.base.specs.Parts.{span, splice}

pub length-span : (w : List ℕ) (a e : ℕ) → a ≤ e → e ≤ length w → length (span w a e) ≡ e - a
length-span w a e h k = length-take-le (e - a) (drop a w) (simp length-drop (omega arith))

pub length-splice : (w : List ℕ) (a e : ℕ) (p : List ℕ) → length p ≡ e - a → a ≤ e → e ≤ length w → length (splice w a e p) ≡ length w
length-splice w a e p l h k =
    let la : length (take a w) ≡ a = length-take-le a w (omega arith) in
    let ld : length (drop (e - a) (drop a w)) ≡ length w - a - (e - a) = length-drop (e - a) (drop a w) ∙ ap (λ (n : ℕ). n - (e - a)) (length-drop a w) in
    length-append (take a w) (p ++ drop (e - a) (drop a w))
    ∙ ap₂ (λ (n m : ℕ). n + m) la (length-append p (drop (e - a) (drop a w)))
    ∙ omega arith

-- what is read at a place: before the part, in it, behind it
pub get_or-before : (w : List ℕ) (a e : ℕ) (p : List ℕ) (i : ℕ) → a ≤ length w → i < a → get_or (splice w a e p) i 0 ≡ get_or w i 0
get_or-before w a e p i la h =
    let l : length (take a w) ≡ a = length-take-le a w la in
    get_or-append (take a w) (p ++ drop (e - a) (drop a w)) 0 i (omega arith) ∙ get_or-take a w i 0 h

pub get_or-in : (w : List ℕ) (a e : ℕ) (p : List ℕ) (j : ℕ) → a ≤ length w → j < length p → get_or (splice w a e p) (a + j) 0 ≡ get_or p j 0
get_or-in w a e p j la h =
    let l : length (take a w) ≡ a = length-take-le a w la in
    ap (λ (n : ℕ). get_or (splice w a e p) (n + j) 0) (sym l)
    ∙ get_or-append-add (take a w) (p ++ drop (e - a) (drop a w)) j 0
    ∙ get_or-append p (drop (e - a) (drop a w)) 0 j h

pub get_or-behind : (w : List ℕ) (a e : ℕ) (p : List ℕ) (i : ℕ) → length p ≡ e - a → a ≤ e → e ≤ length w → e ≤ i → get_or (splice w a e p) i 0 ≡ get_or w i 0
get_or-behind w a e p i l h k b =
    let la : length (take a w) ≡ a = length-take-le a w (omega arith) in
    let at : i ≡ length (take a w) + (length p + (i - e)) = omega arith in
    ap (λ (n : ℕ). get_or (splice w a e p) n 0) at
    ∙ get_or-append-add (take a w) (p ++ drop (e - a) (drop a w)) (length p + (i - e)) 0
    ∙ get_or-append-add p (drop (e - a) (drop a w)) (i - e) 0
    ∙ get_or-drop (e - a) (drop a w) (i - e) 0
    ∙ get_or-drop a w (e - a + (i - e)) 0
    ∙ ap (λ (n : ℕ). get_or w n 0) (omega arith)

pub get_or-outside : (w : List ℕ) (a e : ℕ) (p : List ℕ) (i : ℕ) → length p ≡ e - a → a ≤ e → e ≤ length w → (i < a) ⊎ (e ≤ i)
    → get_or (splice w a e p) i 0 ≡ get_or w i 0
get_or-outside w a e p i l h k (inl b) = get_or-before w a e p i (omega arith) b
get_or-outside w a e p i l h k (inr b) = get_or-behind w a e p i l h k b

pub get_or-span : (w : List ℕ) (a e j : ℕ) → j < e - a → get_or (span w a e) j 0 ≡ get_or w (a + j) 0
get_or-span w a e j h = get_or-take (e - a) (drop a w) j 0 h ∙ get_or-drop a w j 0

-- the part that was put in
pub span-splice : (w : List ℕ) (a e : ℕ) (p : List ℕ) → length p ≡ e - a → a ≤ e → e ≤ length w → span (splice w a e p) a e ≡ p
span-splice w a e p l h k =
    let ls : length (splice w a e p) ≡ length w = length-splice w a e p l h k in
    let lp : length (span (splice w a e p) a e) ≡ e - a = length-span (splice w a e p) a e h (omega arith) in
    ext_get_or 0 (span (splice w a e p) a e) p (lp ∙ sym l)
    (λ i b. get_or-span (splice w a e p) a e i (omega arith) ∙ get_or-in w a e p i (omega arith) (omega arith))

-- a part that lies apart from it
pub span-apart : (w : List ℕ) (a e : ℕ) (p : List ℕ) (a' e' : ℕ) → length p ≡ e - a → a ≤ e → e ≤ length w → a' ≤ e' → e' ≤ length w
    → (e' ≤ a) ⊎ (e ≤ a') → span (splice w a e p) a' e' ≡ span w a' e'
span-apart w a e p a' e' l h k h' k' o =
    let ls : length (splice w a e p) ≡ length w = length-splice w a e p l h k in
    let l1 : length (span (splice w a e p) a' e') ≡ e' - a' = length-span (splice w a e p) a' e' h' (omega arith) in
    let l2 : length (span w a' e') ≡ e' - a' = length-span w a' e' h' k' in
    ext_get_or 0 (span (splice w a e p) a' e') (span w a' e') (l1 ∙ sym l2)
    (λ i b.
    get_or-span (splice w a e p) a' e' i (omega arith)
    ∙ get_or-outside w a e p (a' + i) l h k (out o i (omega arith))
    ∙ sym (get_or-span w a' e' i (omega arith)))
  where
    out : (e' ≤ a) ⊎ (e ≤ a') → (i : ℕ) → i < e' - a' → (a' + i < a) ⊎ (e ≤ a' + i)
    out (inl q) i b = inl (omega arith)
    out (inr q) i b = inr (omega arith)

-- what lies behind it
pub drop-splice : (w : List ℕ) (a e : ℕ) (p : List ℕ) (f : ℕ) → length p ≡ e - a → a ≤ e → e ≤ length w → e ≤ f → drop f (splice w a e p) ≡ drop f w
drop-splice w a e p f l h k b =
    let ls : length (splice w a e p) ≡ length w = length-splice w a e p l h k in
    ext_get_or 0 (drop f (splice w a e p)) (drop f w) (length-drop f (splice w a e p) ∙ ap (λ (n : ℕ). n - f) ls ∙ sym (length-drop f w))
    (λ i c. get_or-drop f (splice w a e p) i 0 ∙ get_or-behind w a e p (f + i) l h k (omega arith) ∙ sym (get_or-drop f w i 0))

-- one word set before a part, or behind it
pub span-set-before : (w : List ℕ) (i v a e : ℕ) → i < a → span (set w i v) a e ≡ span w a e
span-set-before w i v a e h = ap (take (e - a)) (drop-set-lt a w i v h)

-- of two parts put in at one place the later stays
pub splice-splice : (w : List ℕ) (a e : ℕ) (p r : List ℕ) → length p ≡ e - a → a ≤ length w → splice (splice w a e p) a e r ≡ splice w a e r
splice-splice w a e p r l h =
    let la : length (take a w) ≡ a = length-take-le a w h in
    ap₂ (λ (x y : List ℕ). x ++ (r ++ y))
    (take_at (take a w) (p ++ drop (e - a) (drop a w)) a la)
    (ap (drop (e - a)) (drop_at (take a w) (p ++ drop (e - a) (drop a w)) a la) ∙ drop_at p (drop (e - a) (drop a w)) (e - a) l)
