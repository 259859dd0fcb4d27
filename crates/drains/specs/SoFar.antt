-- A Drain in the middle of its loop: what its turns so far have come to, and how each further turn changes that. Order: where it stands; at the start;
-- after a turn that passed a packet on, that delivered one, that stopped; what the whole Drain then is. Assumes nothing.
use Rattle.std.specs.Prelude.{◌≡◌, refl, List, [], ◌∷◌, ◌++◌, map, ℕ, suc, ◌+◌, ◌-◌, ◌<◌, ◌≤◌}
use Rattle.std.proofs.Common.{ap, ap₂, sym, ◌∙◌, subst, append_assoc, append-nil, add-one, arith, drop-cons}
use native.Mathlib.Nat.{sub-zero}
use lib.ListN.{length, drop, set, length-append, length-map}
use Rattle.std.proofs.lemmas.List.{set_at}
use Rattle.network.specs.declared.NamedMove.{NamedMove}
use Rattle.network.specs.declared.Stop.{Stop}
use Rattle.network.specs.declared.Drained.{Drained}
use Rattle.network.specs.Sizes.{Shape}
use Rattle.network.specs.TorusLaws.{Torus}
use Rattle.network.specs.CheckLaws.{Network}
use Rattle.network.specs.Calls.{Delivery, stopped, one_more, drain_from, drain_of}
use Rattle.turns.specs.declared.Turn.{Turn}
use Rattle.turns.specs.Turns.{turn_answer, turn_words, after_turns, after_none, after_more, ByTurn, stops, passes, delivers, by_turn, stopped-words}

abbrev pub packets : List Delivery → List ℕ
packets ds = map (λ (d : Delivery). d.packet) ds

-- from the words w₀ and the ledger l₀, m moves have led to w and l, and d packets were delivered
pub record SoFar (S : Shape) (w₀ : List ℕ) (budget : ℕ) (l₀ w l : List ℕ) (m d : ℕ) : Type 0 where
  pub made : List NamedMove
  pub handed : List Delivery
  pub network : Network S w
  pub whole : drain_from S budget (length l₀) w₀ ≡ after_turns made handed (drain_from S (budget - m) (length l₀ - d) w)
  pub moved : length made ≡ m
  pub counted : length handed ≡ d
  pub within : m ≤ budget
  pub room : d ≤ length l₀
  pub written : l ≡ packets handed ++ drop d l₀

-- the end of the loop: the answer, the words and the ledger of the whole Drain
pub record DrainedTo (S : Shape) (w : List ℕ) (budget : ℕ) (ledger : List ℕ) (said : Drained) (v written : List ℕ) : Type 0 where
  pub made : List NamedMove
  pub handed : List Delivery
  pub why : Stop
  pub whole : drain_from S budget (length ledger) w ≡ record { words = v; moves = made; deliveries = handed; stop = why }
  pub says : said ≡ drain_of (length made) (length handed) why
  pub writes : written ≡ packets handed ++ drop (length handed) ledger

pub so-far-start : (S : Shape) (w : List ℕ) (budget : ℕ) (l : List ℕ) → Network S w → SoFar S w budget l w l 0 0
so-far-start S w budget l N =
    record {
      made = [];
      handed = [];
      network = N;
      whole = sym (after_none (drain_from S budget (length l) w)) ∙ ap₂ (λ (b r : ℕ). after_turns [] [] (drain_from S b r w)) (sym (sub-zero budget)) (sym (sub-zero (length l)));
      moved = refl;
      counted = refl;
      within = omega arith;
      room = omega arith;
      written = refl;
    }

-- what a turn says of the Drain, by what it came to
passed : (S : Shape) (w : List ℕ) (b r : ℕ) (t : Turn) (v : List ℕ) → ByTurn S w b r t v → t ≡ Turn.Passed
    → (m : NamedMove) × (b' : ℕ) × (b ≡ suc b') × Network S v × (drain_from S b r w ≡ one_more m [] (drain_from S b' r v))
passed S w b r t v (stops x) e = absurd (let z : ◌≡◌ {A = ℕ} 0 1 = cc in native.Mathlib.Nat.suc-ne-zero 0 (sym z))
passed S w b r t v (passes m b' x M y) e = (m, b', x, M, y)
passed S w b r t v (delivers m n b' r' x x' M y) e = absurd (let z : ◌≡◌ {A = ℕ} 0 1 = cc in native.Mathlib.Nat.suc-ne-zero 0 (sym z))

pub record Handed (S : Shape) (w : List ℕ) (b r p : ℕ) (v : List ℕ) : Type 0 where
  pub move : NamedMove
  pub node : ℕ
  pub budget : ℕ
  pub room : ℕ
  pub one_less : b ≡ suc budget
  pub one-word : r ≡ suc room
  pub network : Network S v
  pub goes_on : drain_from S b r w ≡ one_more move (record { node = node; packet = p } ∷ []) (drain_from S budget room v)

delivered : (S : Shape) (w : List ℕ) (b r p : ℕ) (t : Turn) (v : List ℕ) → ByTurn S w b r t v → t ≡ Turn.Delivered p → Handed S w b r p v
delivered S w b r p t v (stops x) e = absurd (let z : ◌≡◌ {A = ℕ} 0 1 = cc in native.Mathlib.Nat.suc-ne-zero 0 (sym z))
delivered S w b r p t v (passes m b' x M y) e = absurd (let z : ◌≡◌ {A = ℕ} 0 1 = cc in native.Mathlib.Nat.suc-ne-zero 0 (sym z))
delivered S w b r p t v (delivers {p = p'} m n b' r' x x' M y) e =
    let same : p' ≡ p = cc in
    record {
      move = m;
      node = n;
      budget = b';
      room = r';
      one_less = x;
      one-word = x';
      network = M;
      goes_on = subst (λ (k : ℕ). drain_from S b r w ≡ one_more m (record { node = n; packet = k } ∷ []) (drain_from S b' r' v)) same y;
    }

ended : (S : Shape) (w : List ℕ) (b r : ℕ) (why : Stop) (t : Turn) (v : List ℕ) → ByTurn S w b r t v → t ≡ Turn.Stopped why → drain_from S b r w ≡ stopped w why
ended S w b r why t v (stops {why = why'} x) e =
    let same : why' ≡ why = cc in
    subst (λ (k : Stop). drain_from S b r w ≡ stopped w k) same x
ended S w b r why t v (passes m b' x M y) e = absurd (let z : ◌≡◌ {A = ℕ} 0 1 = cc in native.Mathlib.Nat.suc-ne-zero 0 (sym z))
ended S w b r why t v (delivers m n b' r' x x' M y) e = absurd (let z : ◌≡◌ {A = ℕ} 0 1 = cc in native.Mathlib.Nat.suc-ne-zero 0 (sym z))

packets-append : (ds es : List Delivery) → packets (ds ++ es) ≡ packets ds ++ packets es
packets-append [] es = refl
packets-append (d ∷ ds) es = ap (λ (l : List ℕ). d.packet ∷ l) (packets-append ds es)

-- one packet more in the ledger
next_word : (ds : List Delivery) (x : Delivery) (d : ℕ) (l : List ℕ) → length ds ≡ d → d + 1 ≤ length l
    → set (packets ds ++ drop d l) d x.packet ≡ packets (ds ++ (x ∷ [])) ++ drop (d + 1) l
next_word ds x d l e h =
    ap (λ (t : List ℕ). set (packets ds ++ t) d x.packet) (drop-cons l d 0 (omega arith))
    ∙ set_at (packets ds) (lib.ListN.get_or l d 0) (drop (suc d) l) x.packet d (length-map ds (λ (y : Delivery). y.packet) ∙ e)
    ∙ sym (append_assoc (packets ds) (x.packet ∷ []) (drop (suc d) l))
    ∙ ap₂ (λ (a : List ℕ) (k : ℕ). a ++ drop k l) (sym (packets-append ds (x ∷ []))) (sym (add-one d))

-- a Drain that has come to its end
at-the-end : (ms : List NamedMove) (ds : List Delivery) (w : List ℕ) (why : Stop)
    → after_turns ms ds (stopped w why) ≡ record { words = w; moves = ms; deliveries = ds; stop = why }
unfolding after_turns stopped
at-the-end ms ds w why = λ i. record { words = w; moves = append-nil ms i; deliveries = append-nil ds i; stop = why }

module _ (S : Shape) (tor : Torus S) (w₀ : List ℕ) (budget : ℕ) (l₀ : List ℕ) where
  -- a turn that passed a packet on
  pub so-far-passed : (w l : List ℕ) (m d : ℕ) → SoFar S w₀ budget l₀ w l m d → turn_answer S w (budget - m) (length l₀ - d) ≡ Turn.Passed
      → SoFar S w₀ budget l₀ (turn_words S w (budget - m) (length l₀ - d)) l (m + 1) d
  so-far-passed w l m d f e =
      let (k, b, eb, M, y) = passed S w (budget - m) (length l₀ - d) _ _ (by_turn S tor w f.network (budget - m) (length l₀ - d)) e in
      let left : b ≡ budget - (m + 1) = omega arith in
      let some : m + 1 ≤ budget = omega arith in
      record {
        made = f.made ++ (k ∷ []);
        handed = f.handed;
        network = M;
        whole =
            f.whole
            ∙ ap (after_turns f.made f.handed) y
            ∙ after_more f.made k f.handed [] (drain_from S b (length l₀ - d) (turn_words S w (budget - m) (length l₀ - d)))
            ∙ ap₂ (λ (ds : List Delivery) (x : ℕ). after_turns (f.made ++ (k ∷ [])) ds (drain_from S x (length l₀ - d) (turn_words S w (budget - m) (length l₀ - d)))) (append-nil f.handed) left;
        moved = length-append f.made (k ∷ []) ∙ ap (λ (x : ℕ). x + 1) f.moved;
        counted = f.counted;
        within = some;
        room = f.room;
        written = f.written;
      }

  -- a turn that delivered a packet, which has gone to the next word of the ledger
  pub so-far-delivered : (w l : List ℕ) (m d p : ℕ) → SoFar S w₀ budget l₀ w l m d → turn_answer S w (budget - m) (length l₀ - d) ≡ Turn.Delivered p
      → SoFar S w₀ budget l₀ (turn_words S w (budget - m) (length l₀ - d)) (set l d p) (m + 1) (d + 1)
  so-far-delivered w l m d p f e =
      let h : Handed S w (budget - m) (length l₀ - d) p (turn_words S w (budget - m) (length l₀ - d)) =
      delivered S w (budget - m) (length l₀ - d) p _ _ (by_turn S tor w f.network (budget - m) (length l₀ - d)) e in
      let eb : budget - m ≡ suc h.budget = h.one_less in
      let er : length l₀ - d ≡ suc h.room = h.one-word in
      let left : h.budget ≡ budget - (m + 1) = omega arith in
      let free : h.room ≡ length l₀ - (d + 1) = omega arith in
      let some : m + 1 ≤ budget = omega arith in
      let word : d + 1 ≤ length l₀ = omega arith in
      record {
        made = f.made ++ (h.move ∷ []);
        handed = f.handed ++ (record { node = h.node; packet = p } ∷ []);
        network = h.network;
        whole =
            f.whole
            ∙ ap (after_turns f.made f.handed) h.goes_on
            ∙ after_more f.made h.move f.handed (record { node = h.node; packet = p } ∷ []) (drain_from S h.budget h.room (turn_words S w (budget - m) (length l₀ - d)))
            ∙ ap₂
            (λ (x y : ℕ). after_turns (f.made ++ (h.move ∷ [])) (f.handed ++ (record { node = h.node; packet = p } ∷ [])) (drain_from S x y (turn_words S w (budget - m) (length l₀ - d))))
            left free;
        moved = length-append f.made (h.move ∷ []) ∙ ap (λ (x : ℕ). x + 1) f.moved;
        counted = length-append f.handed (record { node = h.node; packet = p } ∷ []) ∙ ap (λ (x : ℕ). x + 1) f.counted;
        within = some;
        room = word;
        written = ap (λ (x : List ℕ). set x d p) f.written ∙ next_word f.handed (record { node = h.node; packet = p }) d l₀ f.counted word;
      }

  -- a turn that stopped: the whole Drain
  pub so-far-stopped : (w l : List ℕ) (m d : ℕ) (why : Stop) (f : SoFar S w₀ budget l₀ w l m d) → turn_answer S w (budget - m) (length l₀ - d) ≡ Turn.Stopped why
      → drain_from S budget (length l₀) w₀ ≡ record { words = w; moves = f.made; deliveries = f.handed; stop = why }
  so-far-stopped w l m d why f e =
      f.whole
      ∙ ap (after_turns f.made f.handed) (ended S w (budget - m) (length l₀ - d) why _ _ (by_turn S tor w f.network (budget - m) (length l₀ - d)) e)
      ∙ at-the-end f.made f.handed w why

  pub so-far-end : (w l : List ℕ) (m d : ℕ) (why : Stop) → SoFar S w₀ budget l₀ w l m d → turn_answer S w (budget - m) (length l₀ - d) ≡ Turn.Stopped why
      → DrainedTo S w₀ budget l₀ (drain_of m d why) w l
  so-far-end w l m d why f e =
      record {
        made = f.made;
        handed = f.handed;
        why = why;
        whole = so-far-stopped w l m d why f e;
        says = ap₂ (λ (x y : ℕ). drain_of x y why) (sym f.moved) (sym f.counted);
        writes = f.written ∙ ap (λ (x : ℕ). packets f.handed ++ drop x l₀) (sym f.counted);
      }

  -- while a turn does not stop, some budget is left, and a ledger word where it delivered
  pub passed-budget : (w l : List ℕ) (m d : ℕ) → SoFar S w₀ budget l₀ w l m d → turn_answer S w (budget - m) (length l₀ - d) ≡ Turn.Passed → m < budget
  passed-budget w l m d f e =
      let (k, b, eb, M, y) = passed S w (budget - m) (length l₀ - d) _ _ (by_turn S tor w f.network (budget - m) (length l₀ - d)) e in
      omega arith

  pub delivered-budget : (w l : List ℕ) (m d p : ℕ) → SoFar S w₀ budget l₀ w l m d → turn_answer S w (budget - m) (length l₀ - d) ≡ Turn.Delivered p
      → (m < budget) × (d < length l₀)
  delivered-budget w l m d p f e =
      let h = delivered S w (budget - m) (length l₀ - d) p _ _ (by_turn S tor w f.network (budget - m) (length l₀ - d)) e in
      let eb : budget - m ≡ suc h.budget = h.one_less in
      let er : length l₀ - d ≡ suc h.room = h.one-word in
      (omega arith, omega arith)

  -- what the loop's body shows of the next round, by what the turn t came to: the words v, the ledger l' and the number delivered d' as they are then
  pub next-passed : (w l : List ℕ) (m d : ℕ) (t : Turn) (v l' : List ℕ) (d' : ℕ) → SoFar S w₀ budget l₀ w l m d → t ≡ turn_answer S w (budget - m) (length l₀ - d)
      → v ≡ turn_words S w (budget - m) (length l₀ - d) → t ≡ Turn.Passed → l' ≡ l → d' ≡ d → SoFar S w₀ budget l₀ v l' (m + 1) d'
  next-passed w l m d t v l' d' f et ev e el ed =
      let g : SoFar S w₀ budget l₀ (turn_words S w (budget - m) (length l₀ - d)) l (m + 1) d = so-far-passed w l m d f (sym et ∙ e) in
      subst (λ (x : List ℕ). SoFar S w₀ budget l₀ x l' (m + 1) d') (sym ev)
      (subst (λ (x : List ℕ). SoFar S w₀ budget l₀ (turn_words S w (budget - m) (length l₀ - d)) x (m + 1) d') (sym el)
      (subst (λ (x : ℕ). SoFar S w₀ budget l₀ (turn_words S w (budget - m) (length l₀ - d)) l (m + 1) x) (sym ed) g))

  pub next-delivered : (w l : List ℕ) (m d p : ℕ) (t : Turn) (v l' : List ℕ) (d' : ℕ) → SoFar S w₀ budget l₀ w l m d → t ≡ turn_answer S w (budget - m) (length l₀ - d)
      → v ≡ turn_words S w (budget - m) (length l₀ - d) → t ≡ Turn.Delivered p → l' ≡ set l d p → d' ≡ d + 1 → SoFar S w₀ budget l₀ v l' (m + 1) d'
  next-delivered w l m d p t v l' d' f et ev e el ed =
      let g : SoFar S w₀ budget l₀ (turn_words S w (budget - m) (length l₀ - d)) (set l d p) (m + 1) (d + 1) = so-far-delivered w l m d p f (sym et ∙ e) in
      subst (λ (x : List ℕ). SoFar S w₀ budget l₀ x l' (m + 1) d') (sym ev)
      (subst (λ (x : List ℕ). SoFar S w₀ budget l₀ (turn_words S w (budget - m) (length l₀ - d)) x (m + 1) d') (sym el)
      (subst (λ (x : ℕ). SoFar S w₀ budget l₀ (turn_words S w (budget - m) (length l₀ - d)) (set l d p) (m + 1) x) (sym ed) g))

  pub end-of-it : (w l : List ℕ) (m d : ℕ) (why : Stop) (t : Turn) (v : List ℕ) → SoFar S w₀ budget l₀ w l m d → t ≡ turn_answer S w (budget - m) (length l₀ - d)
      → v ≡ turn_words S w (budget - m) (length l₀ - d) → t ≡ Turn.Stopped why → DrainedTo S w₀ budget l₀ (drain_of m d why) v l
  end-of-it w l m d why t v f et ev e =
      let g : DrainedTo S w₀ budget l₀ (drain_of m d why) w l = so-far-end w l m d why f (sym et ∙ e) in
      subst (λ (x : List ℕ). DrainedTo S w₀ budget l₀ (drain_of m d why) x l) (stopped-words S w (budget - m) (length l₀ - d) why (sym et ∙ e) ∙ sym ev) g
