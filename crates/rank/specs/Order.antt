-- The order of ranks. A rank is a list of numbers, the weightiest first.
use Rattle.std.specs.Prelude.{◌≡◌, ℕ, ◌<◌, ◌⊎◌, List, [], ◌∷◌}

-- a is newer than b: at the first place where they differ, a has the greater number
abbrev pub Newer : List ℕ → List ℕ → Type 0
Newer [] [] = ⊥
Newer [] (y ∷ b) = ⊥
Newer (x ∷ a) [] = Unit {0}
Newer (x ∷ a) (y ∷ b) = (y < x) ⊎ ((x ≡ y) × Newer a b)

-- what is kept of one that is held and one that came: the newer, and of two equals the one held
pub record Kept {T : Type 0} (rank : T → List ℕ) (held came kept : T) : Type 0 where
  pub new : Newer (rank came) (rank held) → kept ≡ came
  pub old : (Newer (rank came) (rank held) → ⊥) → kept ≡ held
