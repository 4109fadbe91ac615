-- What inserting does to a plan's meaning: "names the value it named before".
use Rattle.std.specs.Prelude.{[], ◌∷◌, true, false, ℕ, suc, leb, eqb}
use Rattle.format.specs.Tree.{leaf, TreePath, map_tree}
use Rattle.format.specs.Keys.{KeyMeaning}
use Rattle.format.specs.Meaning.{ScalarMeaning, ReferenceMeaning, Meaning}
use Rattle.format.specs.Edit.{put_pair, at_path}

-- "Insert at place p in the array with path A. An old path that starts with A and then a q ≥ p is shifted: that q becomes q + 1. Other paths stay."
abbrev pub shift : (array : TreePath) → (place : ℕ) → TreePath → TreePath
shift [] p [] = []
shift [] p (q ∷ b) = elim (leb p q) [ true ↦ suc q ∷ b | false ↦ q ∷ b ]
shift (a ∷ rest) p [] = []
shift (a ∷ rest) p (q ∷ b) = elim (eqb a q) [ true ↦ q ∷ shift rest p b | false ↦ q ∷ b ]

abbrev pub shifted : (array : TreePath) → (place : ℕ) → ReferenceMeaning → ReferenceMeaning
shifted a p r = record { kind = r.kind; names = shift a p r.names }

-- "The new meaning is the old one with every path that a reference names so shifted and the new pair at place p of that array's pairs."
unfoldable pub insert_meaning : (array : TreePath) → (place : ℕ) → KeyMeaning → ScalarMeaning → Meaning → Meaning
insert_meaning a p k x m = at_path (λ h. h) (put_pair p k (leaf x)) a (map_tree (λ j. j) (λ y. y) (λ h. h) (shifted a p) m)
