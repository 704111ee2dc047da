-- A list in which the first that passes a test is taken out, or has another put in its place.
use Rattle.std.specs.Prelude.{Bool, cond, List, [], ◌∷◌}

-- the list without the first that passes a test
abbrev pub without : {X : Type 0} → (X → Bool) → List X → List X
without p [] = []
without p (x ∷ xs) = cond (p x) xs (x ∷ without p xs)

-- the list with y in the place of the first that passes, or at the end where none does
abbrev pub replaced : {X : Type 0} → (X → Bool) → X → List X → List X
replaced p y [] = y ∷ []
replaced p y (x ∷ xs) = cond (p x) (y ∷ xs) (x ∷ replaced p y xs)
