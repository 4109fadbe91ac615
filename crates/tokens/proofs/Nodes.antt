-- Tokens are nodes: the table of a plan has, in order, the tags of its tokens but the closing braces. Assumes nothing.
use Prim.Native.Nat.{ℕ, suc, ◌+◌}
use mathlib.Core.Path.{◌≡◌, refl, sym, ap, ap₂, ◌∙◌}
use mathlib.Core.List.{List, [], ◌∷◌, ◌++◌, map, map-append, append_assoc, append-nil}
use lib.ListN.{get_or}
use Rattle.format.specs.Tree.{leaf, ref, branch, none, pair, count, nodes, nodes_in, ordinals}
use Rattle.format.specs.Syntax.{int_key, string_key, null, bool, int, float, string, array, object, Key, Scalar, Container, Value, Values, own, write_container}
use Rattle.format.specs.Table.{Node, key_node, scalar_node, branch_node, table, table_in, pairs_offset, value_offset, next_offset, target_of, table_of}
use Rattle.tokens.specs.Tokens.{Token, scalar, closing, key_scalar, tokens, tokens_in, at_nodes, node_behind, node_tag, node_tags}

tags-append : (xs ys : List Token) → node_tags (xs ++ ys) ≡ node_tags xs ++ node_tags ys
tags-append [] ys = refl
tags-append (t ∷ xs) ys = ap (λ (l : List ℕ). node_tag t ++ l) (tags-append xs ys) ∙ sym (append_assoc (node_tag t) (node_tags xs) (node_tags ys))

abbrev tags : List Node → List ℕ
tags ns = map (λ (n : Node). n.tag) ns

key-tag : (o i : ℕ) (k : Key) (ts : List Token) → (key_node o i k).tag ∷ node_tags ts ≡ node_tags (scalar (key_scalar k) ∷ ts)
key-tag o i (int_key x) ts = refl
key-tag o i (string_key q) ts = refl

scalar-tag : (o i n : ℕ) (x : Scalar) → (scalar_node o i n x).tag ∷ [] ≡ node_tags (scalar x ∷ [])
scalar-tag o i n null = refl
scalar-tag o i n (bool b) = refl
scalar-tag o i n (int x) = refl
scalar-tag o i n (float t) = refl
scalar-tag o i n (string q) = refl

branch-tag : (o n : ℕ) (c : Container) (pairs end : ℕ) → (branch_node o n c pairs end).tag ≡ get_or (write_container c []) 0 0
branch-tag o n array pairs end = refl
branch-tag o n (object q) pairs end = refl

module _ (to : ℕ → ℕ) where
  mutual
    tags-of : (o i n : ℕ) (v : Value) → tags (table to o i n v) ≡ node_tags (tokens v)
    tags-of o i n (leaf x) = scalar-tag o i n x
    tags-of o i n (ref r) = refl
    tags-of o i n (branch h ps) =
        ap₂ {C = List ℕ} ◌∷◌ (branch-tag o n h.container (count ps) (i + suc (nodes_in ps)))
        (tags_in (pairs_offset o h (count ps)) (suc i) (suc n) ps ∙ sym (tags-append (tokens_in ps) (closing ∷ []) ∙ append-nil (node_tags (tokens_in ps))))

    tags_in : (o i n : ℕ) (ps : Values) → tags (table_in to o i n ps) ≡ node_tags (tokens_in ps)
    tags_in o i n none = refl
    tags_in o i n (pair k v ps) =
        let us : List Node = table to (value_offset o k) (suc i) n v in
        let ws : List Node = table_in to (next_offset o k v) (suc (i + nodes v)) (n + ordinals own v) ps in
        ap {B = List ℕ} (λ l. (key_node o i k).tag ∷ l)
        (map-append (λ (n : Node). n.tag) us ws
        ∙ ap₂ ◌++◌ (tags-of (value_offset o k) (suc i) n v) (tags_in (next_offset o k v) (suc (i + nodes v)) (n + ordinals own v) ps)
        ∙ sym (tags-append (tokens v) (tokens_in ps)))
        ∙ key-tag o i k (tokens v ++ tokens_in ps)

-- EACH TOKEN BUT A CLOSING BRACE IS THE NEXT NODE
pub tokens-are-nodes : (v : Value) → map (λ (n : Node). n.tag) (table_of v) ≡ node_tags (tokens v)
unfolding table_of
tokens-are-nodes v = tags-of (target_of v) 0 0 1 v

-- what asks for no node
pub all-nodes : (f : (node : ℕ) → Token → Token) (g : Token → Token) → ((i : ℕ) (t : Token) → f i t ≡ g t) → (i : ℕ) (ts : List Token)
    → at_nodes f i ts ≡ map g ts
all-nodes f g e i [] = refl
all-nodes f g e i (t ∷ ts) = ap₂ {C = List Token} ◌∷◌ (e i t) (all-nodes f g e (node_behind i t) ts)
