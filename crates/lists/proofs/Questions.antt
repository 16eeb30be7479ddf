-- A list's own question (`any`) is the definition's, asked at each place below its length (sheet's specs/Bytes): of its elements, of them with their places,
-- and of its threes. For the proofs of tested.
use mathlib.Core.Path.{◌≡◌, refl, sym, ap, ◌∙◌, subst}
use mathlib.Core.Bool.{Bool, false, ◌||◌, or-false, or_assoc}
use mathlib.Core.List.{List, [], ◌∷◌, ◌++◌}
use Prim.Native.Nat.{ℕ, zero, suc, ◌+◌, ◌*◌, ◌/◌, ◌<◌}
use native.Mathlib.Nat.{add-mul}
use native.Mathlib.Omega.{arith}
use lib.ListN.{length, get_or, take, drop}
use Rattle.std.specs.List.{fold, list_any, enumerate_from}
use Rattle.std.specs.Simd.{first_chunks}
use Rattle.std.proofs.lemmas.List.{drop-drop, take-append-drop}
use Rattle.std.proofs.lemmas.List.Folds.{list_any-append}
use Rattle.sheet.specs.Bytes.{any_below}

-- asked of 0, and of the next n
any_first : (p : ℕ → Bool) (n : ℕ) → any_below p (suc n) ≡ (p 0 || any_below (λ i. p (suc i)) n)
unfolding any_below
any_first p zero = sym (or-false (p 0))
any_first p (suc n) = ap (λ b. b || p (suc n)) (any_first p n) ∙ or_assoc (p 0) (any_below (λ i. p (suc i)) n) (p (suc n))

once_more : (n k : ℕ) → suc k * n ≡ n + k * n
once_more n k = omega (arith, add-mul k 1 n)

module _ {A : Type 0} where
  pub any_is : (test : A → Bool) (xs : List A) (d : A) → list_any test xs ≡ any_below (λ i. test (get_or xs i d)) (length xs)
  unfolding any_below
  any_is test [] d = refl
  any_is test (x ∷ xs) d = ap (λ b. test x || b) (any_is test xs d) ∙ sym (any_first (λ i. test (get_or (x ∷ xs) i d)) (length xs))

  -- .. also where the answers are gathered one by one, without a stop at the first that holds
  gathered : (test : A → Bool) (b : Bool) (xs : List A) → fold (λ (c : Bool) x. c || test x) b xs ≡ (b || list_any test xs)
  gathered test b [] = sym (or-false b)
  gathered test b (x ∷ xs) = gathered test (b || test x) xs ∙ or_assoc b (test x) (list_any test xs)

  pub folded_is : (test : A → Bool) (xs : List A) (d : A) → fold (λ (c : Bool) x. c || test x) false xs ≡ any_below (λ i. test (get_or xs i d)) (length xs)
  folded_is test xs d = gathered test false xs ∙ any_is test xs d

  -- .. of a list's blocks of n, k of them, and of what is left behind these
  behind : (n k : ℕ) (xs : List A) → drop (suc k * n) xs ≡ drop (k * n) (drop n xs)
  behind n k xs = ap (λ m. drop m xs) (once_more n k) ∙ sym (drop-drop (k * n) n xs)

  blocks_any : (test : A → Bool) (n k : ℕ) (xs : List A) → (list_any (list_any test) (first_chunks n k xs) || list_any test (drop (k * n) xs)) ≡ list_any test xs
  blocks_any test n zero xs = let none : 0 * n ≡ 0 = omega arith in λ z. list_any test (drop (none z) xs)
  blocks_any test n (suc k) xs =
      or_assoc (list_any test (take n xs)) (list_any (list_any test) (first_chunks n k (drop n xs))) (list_any test (drop (suc k * n) xs))
      ∙ ap (λ l. list_any test (take n xs) || (list_any (list_any test) (first_chunks n k (drop n xs)) || list_any test l)) (behind n k xs)
      ∙ ap (λ b. list_any test (take n xs) || b) (blocks_any test n k (drop n xs))
      ∙ sym (list_any-append test (take n xs) (drop n xs))
      ∙ ap (list_any test) (take-append-drop n xs)

  pub blocks_is : (test : A → Bool) (n k : ℕ) (xs : List A) (d : A)
      → (list_any (λ (w : List A). any_below (λ i. test (get_or w i d)) (length w)) (first_chunks n k xs) || any_below (λ i. test (get_or (drop (k * n) xs) i d)) (length (drop (k * n) xs)))
      ≡ any_below (λ i. test (get_or xs i d)) (length xs)
  blocks_is test n k xs d =
      let back : (w : List A) → any_below (λ i. test (get_or w i d)) (length w) ≡ list_any test w = λ w. sym (any_is test w d) in
      (λ z. list_any (λ w. back w z) (first_chunks n k xs) || back (drop (k * n) xs) z) ∙ blocks_any test n k xs ∙ any_is test xs d

  -- of the elements with their places, the first at n
  enumerated_from : (test : ℕ → A → Bool) (xs : List A) (d : A) (n : ℕ)
      → list_any (λ (p : ℕ × A). test p.0 p.1) (enumerate_from n xs) ≡ any_below (λ i. test (n + i) (get_or xs i d)) (length xs)
  unfolding any_below
  enumerated_from test [] d n = refl
  enumerated_from test (x ∷ xs) d n =
      let first : n + 0 ≡ n = omega arith in let next : (i : ℕ) → n + 1 + i ≡ n + suc i = λ i. omega arith in
      (λ z. test (sym first z) x || (enumerated_from test xs d (n + 1) ∙ ap (λ p. any_below p (length xs)) (λ k i. test (next i k) (get_or xs i d))) z)
      ∙ sym (any_first (λ i. test (n + i) (get_or (x ∷ xs) i d)) (length xs))

  pub enumerated_is : (test : ℕ → A → Bool) (xs : List A) (d : A)
      → list_any (λ (p : ℕ × A). test p.0 p.1) (enumerate_from 0 xs) ≡ any_below (λ i. test i (get_or xs i d)) (length xs)
  enumerated_is test xs d =
      let e : (i : ℕ) → 0 + i ≡ i = λ i. omega arith in
      enumerated_from test xs d 0 ∙ ap (λ p. any_below p (length xs)) (λ k i. test (e i k) (get_or xs i d))

  -- the whole threes of a list
  abbrev pub threes : List A → List (List A)
  threes [] = []
  threes (x ∷ []) = []
  threes (x ∷ y ∷ []) = []
  threes (x ∷ y ∷ z ∷ xs) = (x ∷ y ∷ z ∷ []) ∷ threes xs

  pub threes_is : (test : ℕ → A → Bool) (xs : List A) (d : A)
      → list_any (λ (x : List A). any_below (λ j. test j (get_or x j d)) (length x)) (threes xs)
      ≡ any_below (λ i. any_below (λ j. test j (get_or xs (3 * i + j) d)) 3) (length xs / 3)
  unfolding any_below
  threes_is test [] d = refl
  threes_is test (x ∷ []) d = refl
  threes_is test (x ∷ y ∷ []) d = refl
  threes_is test (x ∷ y ∷ z ∷ xs) d =
      let all = x ∷ y ∷ z ∷ xs in let p = λ (i : ℕ). any_below (λ j. test j (get_or all (3 * i + j) d)) 3 in
      let count : length all / 3 ≡ suc (length xs / 3) = omega arith in
      let next : (i j : ℕ) → suc (suc (suc (3 * i + j))) ≡ 3 * suc i + j = λ i j. omega arith in
      ap (λ b. p 0 || b) (threes_is test xs d ∙ ap (λ q. any_below q (length xs / 3)) (λ k i. any_below (λ j. test j (get_or all (next i j k) d)) 3))
      ∙ sym (ap (any_below p) count ∙ any_first p (length xs / 3))

  -- `as_chunks::<3>` gives them
  pub chunks_threes : (xs : List A) → first_chunks 3 (length xs / 3) xs ≡ threes xs
  chunks_threes [] = refl
  chunks_threes (x ∷ []) = refl
  chunks_threes (x ∷ y ∷ []) = refl
  chunks_threes (x ∷ y ∷ z ∷ xs) =
      let all = x ∷ y ∷ z ∷ xs in let count : length all / 3 ≡ suc (length xs / 3) = omega arith in
      ap (λ k. first_chunks 3 k all) count ∙ ap (λ l. (x ∷ y ∷ z ∷ []) ∷ l) (chunks_threes xs)
