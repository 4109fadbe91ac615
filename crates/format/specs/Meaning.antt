-- "A plan's meaning follows from its bytes alone": its tree with spelling forgotten, each reference as the path of the value that it names.
use Rattle.std.specs.Prelude.{List, [], ◌≡◌, ℕ, ◌-◌, get_or, ℤ}
use Rattle.format.specs.Tree.{Tree, TreePath, paths, map_tree}
use Rattle.format.specs.Syntax.{ScalarOf, ContainerOf, map_scalar, map_container, Scalar, Head, RefKind, Reference, Value, own, print}
use Rattle.format.specs.Keys.{integer, KeyMeaning, key_meaning}
use Rattle.format.specs.Fits.{Valid}

-- "for b its 0 or 1, for i its integer, for d and s its text"; "A float's meaning here is its text."
abbrev pub ScalarMeaning : Type 0
ScalarMeaning = ScalarOf ℤ (List ℕ)

abbrev pub scalar_meaning : Scalar → ScalarMeaning
scalar_meaning x = map_scalar integer (λ q. q.text) x

-- "for a its pairs in order, for O its class name and pairs"
abbrev pub HeadMeaning : Type 0
HeadMeaning = ContainerOf (List ℕ)

abbrev pub head_meaning : Head → HeadMeaning
head_meaning h = map_container (λ q. q.text) h.container

-- "for r and R the path of the value named"
pub record ReferenceMeaning : Type 0 where
  pub kind : RefKind
  pub names : TreePath

-- ordinal t belongs to the path at t - 1
abbrev pub reference_meaning : List TreePath → Reference → ReferenceMeaning
reference_meaning env r = record { kind = r.kind; names = get_or env (r.named - 1) [] }

abbrev pub Meaning : Type 0
Meaning = Tree KeyMeaning ScalarMeaning HeadMeaning ReferenceMeaning

unfoldable pub meaning : Value → Meaning
meaning v = map_tree key_meaning scalar_meaning head_meaning (reference_meaning (paths own v)) v

-- what a plan's bytes mean, with no word of reading: they are the print of a valid syntax that means m
pub record Means (source : List ℕ) (m : Meaning) : Type 0 where
  pub syntax : Value
  pub valid : Valid syntax
  pub printed : source ≡ print syntax
  pub is : meaning syntax ≡ m
