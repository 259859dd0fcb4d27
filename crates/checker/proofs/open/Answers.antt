-- `checker::open` meets its contract: the first test that applies decides. Assumes nothing.
use Rattle.std.proofs.Common.{lt-ltb, le-ltb, ◌≡◌, refl, ap, sym, ◌∙◌, Bool, true, false, not, List, ℕ, ◌<◌, ◌≤◌, arith, ltb, length}
use Rattle.base.proofs.Tests.{true-T}
use Rattle.network.specs.Sizes.{Shape, shape_of, sizes_in_range}
use Rattle.network.specs.Layout.{shape, header_words, need}
use Rattle.network.specs.Check.{is_network}
use Rattle.network.specs.Refusals.{refuse, network_refusal, short_store, wrong_size, no_network}
use Rattle.network.specs.declared.Refusal.{Refusal}
use Rattle.network.proofs.Answers.{refused-says, made-says}
use Rattle.checker.specs.Opened.{sizes-shape, opened}
use Rattle.checker.proofs.open.Goals as goal
use Rattle.checker.proofs.open.Goals.{After-is_network, After-sizes_of-s, Else-not-in_range, Else-words-need}

-- a test that applies, and one that does not
applies : (b : Bool) (number later : ℕ) → b ≡ true → refuse b number later ≡ number
applies b number later e = ap (λ t. refuse t number later) e

goes_on : (b : Bool) (number later : ℕ) → b ≡ false → refuse b number later ≡ later
goes_on b number later e = ap (λ t. refuse t number later) e

-- the tests, for sizes S that the words begin with
module _ (w : List ℕ) (S : Shape) (e : S ≡ shape w) where
  first : length w < header_words → network_refusal w ≡ short_store
  unfolding network_refusal
  first l = applies _ _ _ (lt-ltb (length w) header_words l)

  -- the header is there
  second : header_words ≤ length w → sizes_in_range S ≡ false → network_refusal w ≡ wrong_size
  unfolding network_refusal
  second l f = goes_on _ _ _ (le-ltb (length w) header_words l) ∙ applies _ _ _ (ap not (ap sizes_in_range (sym e) ∙ f))

  -- and the sizes are in range
  third : header_words ≤ length w → sizes_in_range S ≡ true → length w < need S → network_refusal w ≡ short_store
  unfolding network_refusal
  third l f k =
      goes_on _ _ _ (le-ltb (length w) header_words l)
      ∙ goes_on _ _ _ (ap not (ap sizes_in_range (sym e) ∙ f))
      ∙ applies _ _ _ (ap (λ (T : Shape). ltb (length w) (need T)) (sym e) ∙ lt-ltb (length w) (need S) k)

  -- and the words are enough
  fourth : header_words ≤ length w → sizes_in_range S ≡ true → need S ≤ length w → network_refusal w ≡ refuse (not (is_network S w)) no_network 0
  unfolding network_refusal
  fourth l f k =
      goes_on _ _ _ (le-ltb (length w) header_words l)
      ∙ goes_on _ _ _ (ap not (ap sizes_in_range (sym e) ∙ f))
      ∙ goes_on _ _ _ (ap (λ (T : Shape). ltb (length w) (need T)) (sym e) ∙ le-ltb (length w) (need S) k)
      ∙ ap (λ (T : Shape). refuse (not (is_network T w)) no_network 0) (sym e)

-- the sizes that the words begin with
begin : (c : After-sizes_of-s) → shape_of c.sizes_of-s.result ≡ shape c.args.words.now
begin c = ap shape_of c.sizes_of-s.ensures ∙ sizes-shape _

pub returns-then-words-lt-HEADER_WORDS : goal.returns-then-words-lt-HEADER_WORDS
unfolding opened
returns-then-words-lt-HEADER_WORDS c = refused-says Refusal.ShortStore _ ((first _ _ refl c.if-words-lt-HEADER_WORDS.true))

pub returns-then-not-in_range : goal.returns-then-not-in_range
unfolding opened
returns-then-not-in_range c = refused-says Refusal.WrongSize _ ((second _ _ (begin (goal.at.returns-then-not-in_range c).After-sizes_of-s) c.if-words-lt-HEADER_WORDS.false (sym c.in_range.ensures ∙ c.if-not-in_range.true)))

ranged : (c : Else-not-in_range) → sizes_in_range (shape_of c.sizes_of-s.result) ≡ true
ranged c = sym c.in_range.ensures ∙ c.if-not-in_range.false

pub need-requires : goal.need-requires
need-requires c = true-T _ (ranged (goal.at.need-requires c).Else-not-in_range)

pub returns-then-words-need : goal.returns-then-words-need
unfolding opened
returns-then-words-need c =
    let l = c.if-words-need.true in
    let e = c.need.ensures in
    refused-says Refusal.ShortStore _ ((third _ _ (begin (goal.at.returns-then-words-need c).After-sizes_of-s) c.if-words-lt-HEADER_WORDS.false (ranged (goal.at.returns-then-words-need c).Else-not-in_range) (omega arith)))

long : (c : Else-words-need) → need (shape_of c.sizes_of-s.result) ≤ length c.args.words.now
long c = let l = c.if-words-need.false in let e = c.need.ensures in omega arith

pub is_network-requires : goal.is_network-requires
is_network-requires c = record { sizes = true-T _ (ranged (goal.at.is_network-requires c).Else-not-in_range); long = long (goal.at.is_network-requires c).Else-words-need }

last : (c : After-is_network)
    → network_refusal c.args.words.now ≡ refuse (not c.is_network.result) no_network 0
last c =
    fourth _ _ (ap shape_of c.sizes_of-s.ensures ∙ sizes-shape _) c.if-words-lt-HEADER_WORDS.false (sym c.in_range.ensures ∙ c.if-not-in_range.false)
    (let l = c.if-words-need.false in let e = c.need.ensures in let b : need (shape_of c.sizes_of-s.result) ≤ length c.args.words.now = omega arith in b)
    ∙ ap (λ (b : Bool). refuse (not b) no_network 0) (sym c.is_network.ensures)

pub returns-then-not-is_network : goal.returns-then-not-is_network
unfolding opened
returns-then-not-is_network c =
    refused-says Refusal.NoNetwork _ ((last (goal.at.returns-then-not-is_network c).After-is_network ∙ applies _ _ _ (ap not c.if-not-is_network.true)))

pub returns : goal.returns
unfolding opened
returns c = made-says (last (goal.at.returns c).After-is_network ∙ goes_on _ _ _ (ap not c.if-not-is_network.false)) c.sizes_of-s.ensures
