-- A list that is filled from the front part by part, each part lent on its own and put back (L5). For `lay_axes`.
use mathlib.Core.Path.{◌≡◌, refl, sym, ap, ◌∙◌}
use mathlib.Core.List.{List, [], ◌++◌, append_assoc}
use Prim.Native.Nat.{ℕ, ◌+◌, ◌-◌, ◌*◌, ◌≤◌}
use native.Mathlib.Omega.{arith}
use lib.ListN.{length, drop, length-append}
use lib.Seq.{take_at, drop_at, drop-drop}
use borrow.Rule.Slice.PartMut.{put_mid, post_of}

module _ {A : Type 0} (l : List A) where
  -- the list t, which is p and then as l, after its part from a to e came back as x
  put_next : (t p x : List A) (a e : ℕ) → t ≡ p ++ drop a l → length p ≡ a → a ≤ e → put_mid a (e - a) t x ≡ (p ++ x) ++ drop e l
  put_next t p x a e q h k =
      let up : a + (e - a) ≡ e = omega arith in
      ap (λ (u : List A). put_mid a (e - a) u x) q
      ∙ ap (λ (u : List A). u ++ (x ++ post_of a (e - a) (p ++ drop a l))) (take_at p (drop a l) a h)
      ∙ ap (λ (u : List A). p ++ (x ++ drop (e - a) u)) (drop_at p (drop a l) a h)
      ∙ ap (λ (u : List A). p ++ (x ++ u)) (drop-drop (e - a) a l ∙ ap (λ (m : ℕ). drop m l) up)
      ∙ sym (append_assoc p x (drop e l))

  -- three parts of n numbers each
  pub three_parts : (n : ℕ) (x y z : List A) → length x ≡ n → length y ≡ n
      → put_mid (2 * n) (3 * n - 2 * n) (put_mid n (2 * n - n) (put_mid 0 (n - 0) l x) y) z ≡ (x ++ y ++ z) ++ drop (3 * n) l
  three_parts n x y z hx hy =
      let one = put_next l [] x 0 n refl refl (omega arith) in
      let two = put_next (put_mid 0 (n - 0) l x) x y n (2 * n) one hx (omega arith) in
      put_next (put_mid n (2 * n - n) (put_mid 0 (n - 0) l x) y) (x ++ y) z (2 * n) (3 * n) two (length-append x y ∙ omega arith) (omega arith)
