-- What words say, and that it is all that they say.
use Rattle.std.proofs.Common.{◌≡◌, Some, None, sym, refl, ap, ◌∙◌}
use Rattle.text.specs.Readers.{Line, Read, By, Making, Sole}

pub some_same : {A : Type 0} {a b : A} → Some a ≡ Some b → a ≡ b
some_same e = cc

abbrev rest_or : {A : Type 0} → Line → Read A → Line
rest_or other None = other
rest_or other (Some p) = p.1

module _ {A : Type 0} (reader : Line → Read A) (before : Line) where
  -- a reader reads one thing at most
  pub sole-by : (a : A) (after : Line) → reader before ≡ Some (a, after) → Sole (By reader) before a after
  sole-by a after e = (e, λ b rest f. ap (rest_or after) (sym f ∙ e))

module _ {A B : Type 0} (says : Line → A → Line → Type 0) (make : A → B) (before : Line) where
  pub sole-making : (a : A) (after : Line) → Sole says before a after → Sole (Making says make) before (make a) after
  sole-making a after (is, sole) = ((a, is, refl), λ b rest made. sole made.0 rest made.1)
