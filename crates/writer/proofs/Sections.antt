-- A section of a sheet: the bytes of a list's elements in turn, each element as wide as the next. What stands at a place in it, and a section that was read, written again.
use mathlib.Core.Path.{◌≡◌, refl, sym, ap, ◌∙◌, subst}
use mathlib.Core.List.{List, [], ◌∷◌, ◌++◌, flat_map, append_assoc, append-nil}
use Prim.Native.Nat.{ℕ, zero, suc, ◌+◌, ◌*◌, ◌≤◌, ◌<◌}
use native.Mathlib.Nat.{mul-suc, mul-zero, mul-le-mul_left}
use native.Mathlib.Numerals.{add-one}
use native.Mathlib.Omega.{arith}
use lib.IntN.{ℤ, pos, nat_abs}
use lib.ListN.{length, get_or, take, drop, length-append, get_or-append}
use lib.Seq.{get_or-append-add, take-suc, length-take-le}
use Rattle.sheet.specs.Bytes.{byte, be16, be32, signed32}
use Rattle.lists.specs.Lists.{list_below}
use Rattle.writer.specs.Sheets.{bytes16, bits32, number_bytes}
use Rattle.writer.specs.Inside.{over}
use Rattle.writer.proofs.Bytes.{signed_bits, bits_small, read_two, read_four}
use Rattle.writer.proofs.Over.{over_next}

-- ---- one more element, at the end
pub flat_append : {A : Type 0} (f : A → List ℕ) (k l : List A) → flat_map f (k ++ l) ≡ flat_map f k ++ flat_map f l
unfolding flat_map
flat_append f [] l = refl
flat_append f (x ∷ k) l = ap (λ r. f x ++ r) (flat_append f k l) ∙ sym (append_assoc (f x) (flat_map f k) (flat_map f l))

flat_next : {A : Type 0} (f : A → List ℕ) (l : List A) (i : ℕ) (d : A) → i < length l
    → flat_map f (take i l) ++ f (get_or l i d) ≡ flat_map f (take (i + 1) l)
unfolding flat_map
flat_next f l i d h = sym (
    ap (λ k. flat_map f (take k l)) (add-one i) ∙ ap (flat_map f) (take-suc l i d h)
    ∙ flat_append f (take i l) (get_or l i d ∷ []) ∙ ap (λ r. flat_map f (take i l) ++ r) (append-nil (f (get_or l i d))))

-- ---- two functions that write each element alike
pub flat_same : {A : Type 0} (f g : A → List ℕ) (l : List A) (d : A) → ((i : ℕ) → i < length l → f (get_or l i d) ≡ g (get_or l i d)) → flat_map f l ≡ flat_map g l
unfolding flat_map
flat_same f g [] d h = refl
flat_same f g (x ∷ l) d h = (λ z. h 0 (omega arith) z ++ flat_same f g l d (λ i k. h (suc i) (omega arith)) z)

module _ {A : Type 0} (f : A → List ℕ) (w : ℕ) (wide : (x : A) → length (f x) ≡ w) where
  pub flat_length : (l : List A) → length (flat_map f l) ≡ w * length l
  unfolding flat_map
  flat_length [] = sym (mul-zero w)
  flat_length (x ∷ l) = length-append (f x) (flat_map f l) ∙ omega (arith, wide x, flat_length l, mul-suc w (length l))

  -- of the first i elements
  flat_part : (l : List A) (i : ℕ) → i ≤ length l → length (flat_map f (take i l)) ≡ w * i
  flat_part l i h = flat_length (take i l) ∙ ap (λ k. w * k) (length-take-le i l h)

  -- put element by element over a slice from a place on: one more
  module _ (l : List A) (from : ℕ) (out : List ℕ) where
    pub element_put : (i : ℕ) (d : A) {before after : List ℕ} → i < length l → from + w * length l ≤ length out
        → before ≡ over (flat_map f (take i l)) from out → after ≡ over (f (get_or l i d)) (from + w * i) before
        → after ≡ over (flat_map f (take (i + 1) l)) from out
    element_put i d h room e g =
        let part = flat_part l i (omega arith) in let less : w * i ≤ w * length l = mul-le-mul_left w (omega arith) in
        g ∙ over_next out from (flat_map f (take i l)) (f (get_or l i d)) e (omega (arith, part)) (omega (arith, part, less))
        ∙ ap (λ x. over x from out) (flat_next f l i d h)

  -- byte j of element i
  in_section : (l : List A) (q : List ℕ) (i j : ℕ) (d : A) → i < length l → j < w → byte (flat_map f l ++ q) (w * i + j) ≡ byte (f (get_or l i d)) j
  unfolding flat_map
  in_section [] q i j d h k = absurd (omega arith)
  in_section (x ∷ l) q zero j d h k =
      let e : w * 0 + j ≡ j = omega (arith, mul-zero w) in
      ap (λ n. byte ((f x ++ flat_map f l) ++ q) n) e
      ∙ ap (λ r. byte r j) (append_assoc (f x) (flat_map f l) q)
      ∙ get_or-append (f x) (flat_map f l ++ q) 0 j (omega (arith, wide x))
  in_section (x ∷ l) q (suc i) j d h k =
      let e : w * suc i + j ≡ length (f x) + (w * i + j) = omega (arith, wide x, mul-suc w i) in
      ap (λ n. byte ((f x ++ flat_map f l) ++ q) n) e
      ∙ ap (λ r. byte r (length (f x) + (w * i + j))) (append_assoc (f x) (flat_map f l) q)
      ∙ get_or-append-add (f x) (flat_map f l ++ q) (w * i + j) 0
      ∙ in_section l q i j d (omega arith) k

  -- the same behind other bytes
  section_byte : (p : List ℕ) (l : List A) (q : List ℕ) (i j at : ℕ) (d : A) → i < length l → j < w → at ≡ length p + (w * i + j)
      → byte (p ++ (flat_map f l ++ q)) at ≡ byte (f (get_or l i d)) j
  section_byte p l q i j at d h k e =
      ap (λ n. byte (p ++ (flat_map f l ++ q)) n) e ∙ get_or-append-add p (flat_map f l ++ q) (w * i + j) 0 ∙ in_section l q i j d h k

-- ---- legs, two bytes each, and numbers, four bytes each
module _ (p q : List ℕ) where
  pub leg_written : (l : List ℕ) (i at : ℕ) → i < length l → at ≡ length p + 2 * i → get_or l i 0 < 65536
      → be16 (p ++ (flat_map bytes16 l ++ q)) at ≡ get_or l i 0
  leg_written l i at h e small =
      read_two (p ++ (flat_map bytes16 l ++ q)) at (get_or l i 0) small
      (section_byte bytes16 2 (λ x. refl) p l q i 0 at 0 h (omega arith) (omega arith))
      (section_byte bytes16 2 (λ x. refl) p l q i 1 (at + 1) 0 h (omega arith) (omega arith))

  pub number_written : (l : List ℤ) (i at : ℕ) → i < length l → at ≡ length p + 4 * i → nat_abs (get_or l i (pos 0)) < 2147483648
      → signed32 (be32 (p ++ (flat_map number_bytes l ++ q)) at) ≡ get_or l i (pos 0)
  number_written l i at h e small =
      let z = get_or l i (pos 0) in
      ap signed32 (read_four (p ++ (flat_map number_bytes l ++ q)) at (bits32 z) (bits_small z small)
      (section_byte number_bytes 4 (λ x. refl) p l q i 0 at (pos 0) h (omega arith) (omega arith))
      (section_byte number_bytes 4 (λ x. refl) p l q i 1 (at + 1) (pos 0) h (omega arith) (omega arith))
      (section_byte number_bytes 4 (λ x. refl) p l q i 2 (at + 2) (pos 0) h (omega arith) (omega arith))
      (section_byte number_bytes 4 (λ x. refl) p l q i 3 (at + 2 + 1) (pos 0) h (omega arith) (omega arith)))
      ∙ signed_bits z small

-- ---- elements that are read one after another from s, w bytes each, written again
module _ {A : Type 0} (f : A → List ℕ) (w : ℕ) (s : List ℕ) where
  pub section_again : (n at : ℕ) (g : ℕ → A)
      → ((i : ℕ) → i < n → f (g i) ++ drop (at + w * i + w) s ≡ drop (at + w * i) s)
      → flat_map f (list_below g n) ++ drop (at + w * n) s ≡ drop at s
  unfolding flat_map list_below
  section_again zero at g h = let e : at + w * 0 ≡ at = omega (arith, mul-zero w) in ap (λ k. drop k s) e
  section_again (suc n) at g h =
      let first : at + w * 0 ≡ at = omega (arith, mul-zero w) in
      let after : at + w * suc n ≡ at + w + w * n = omega (arith, mul-suc w n) in
      append_assoc (f (g 0)) (flat_map f (list_below (λ i. g (suc i)) n)) (drop (at + w * suc n) s)
      ∙ ap (λ k. f (g 0) ++ (flat_map f (list_below (λ i. g (suc i)) n) ++ drop k s)) after
      ∙ ap (λ r. f (g 0) ++ r) (section_again n (at + w) (λ i. g (suc i)) (λ i k.
      let e : at + w * suc i ≡ at + w + w * i = omega (arith, mul-suc w i) in
      subst (λ a. f (g (suc i)) ++ drop (a + w) s ≡ drop a s) e (h (suc i) (omega arith))))
      ∙ subst (λ a. f (g 0) ++ drop (a + w) s ≡ drop a s) first (h 0 (omega arith))
