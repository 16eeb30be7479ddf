-- What putting something at a text's end leaves. For lines, words and output.
use Rattle.std.specs.Prelude.{◌≡◌, List, ◌++◌, ℕ, ◌+◌, length, take}
use Rattle.lines.specs.declared.text.Text.{Text}

-- what is put stands behind what was there, in the same buffer
pub record Grown (old new : Text) (more : List ℕ) : Type 0 where
  pub text : take new.len new.bytes.now ≡ take old.len old.bytes.now ++ more
  pub len : new.len ≡ old.len + length more
  pub room : length new.bytes.now ≡ length old.bytes.now
  pub same : new.bytes.ghost_name ≡ old.bytes.ghost_name
