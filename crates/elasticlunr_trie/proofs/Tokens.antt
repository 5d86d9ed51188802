-- The texts with postings below a place are the tokens that begin with its text.
use Rattle.std.proofs.Common.{◌≡◌, ◌↔◌, inl, inr, ℕ, ◌<◌, Bool, true, false, List, [], ◌∷◌, length, Option, Some, None}
use Rattle.std.proofs.Common.{is_some, IsTrue, refl, sym, ap, ◌∙◌, arith, bytes_eq, get_or}
use Rattle.std.specs.Prelude.{◌||◌}
use mathlib.Core.Bool.{false≢true}
use Rattle.std.proofs.lemmas.Bool.{cases_eq, lt-ltb, ltb-true}
use Rattle.std.proofs.lemmas.Slice.Eq.{bytes_eq-Decides}
use Rattle.std.specs.List.Sorted.{IsStrictlySortedBy}
use Rattle.std.specs.FinMap.{entries, len, len-entries}
use Rattle.elasticlunr_error.specs.Text.{Text, is_listed, text_cmp}
use Rattle.elasticlunr_trie_nodes.specs.Table.{posting}
use Rattle.elasticlunr_trie_nodes.specs.Names.{Names, AreNames, at}
use Rattle.elasticlunr_trie_nodes.specs.Nodes.{AreAllNumbered, postings_at}
use Rattle.elasticlunr_trie_nodes.specs.Trie.{entries_at, step_of, table_of, walk, IsTrie}
use Rattle.elasticlunr_trie_nodes.specs.declared.nodes.Node.{Node}
use Rattle.elasticlunr_trie_nodes.specs.declared.nodes.Place.{Place}
use Rattle.elasticlunr_trie_nodes.specs.declared.nodes.Place.TheVariants.{Root, At}
use Rattle.elasticlunr_trie_nodes.proofs.Adding.{posting_none, posting_walk}
use Rattle.elasticlunr_trie_nodes.proofs.Forest.{walk_front}
use Rattle.elasticlunr_trie_nodes.proofs.Named.{at_name, number_there}
use Rattle.elasticlunr_trie_nodes.proofs.Settled.{bare_root}
use Rattle.elasticlunr_trie_nodes.proofs.Tables.{In}
use Rattle.elasticlunr_trie.specs.Children.{Children}
use Rattle.elasticlunr_trie.specs.Tokens.{IsToken, IsTokenFrom}
use Rattle.elasticlunr_trie.specs.Visits.{below, node_visits, posted, is_posted}
use Rattle.elasticlunr_trie.proofs.Compact.{some_posting, bare_posting}
use Rattle.elasticlunr_trie.proofs.Visits.{Posted, at_from, at_to, root_from, root_to}

-- ---- a text is listed where it is one of the list

listed_from : (t : Text) (ts : List Text) → is_listed t ts ≡ true → In t ts
listed_from t [] h = absurd (false≢true h)
listed_from t (u ∷ ts) h = by (bytes_eq t u) refl (listed_from t ts) h
  where
    by : (b : Bool) → bytes_eq t u ≡ b → (is_listed t ts ≡ true → In t ts) → (b || is_listed t ts) ≡ true
        → In t (u ∷ ts)
    by true is later h = inl ((bytes_eq-Decides t u).0 is)
    by false is later h = inr (later h)

listed_to : (t : Text) (ts : List Text) → In t ts → is_listed t ts ≡ true
listed_to t [] h = elim h [ ]
listed_to t (u ∷ ts) (inl e) = ap (λ b. b || is_listed t ts) ((bytes_eq-Decides t u).1 e)
listed_to t (u ∷ ts) (inr h) = by (bytes_eq t u) (listed_to t ts h)
  where
    by : (b : Bool) → is_listed t ts ≡ true → (b || is_listed t ts) ≡ true
    by true is = refl
    by false is = is

-- ---- a token leads to a node with a posting

module _ (root : Children) (nodes : List Node) (trie : IsTrie root nodes) (names : Names) (are : AreNames names)
    (numbered : AreAllNumbered names nodes) where
  posted_token : (u : Text) → Posted root nodes trie u → IsToken (table_of root nodes names) u
  posted_token u at =
      let P = postings_at nodes at.0 in
      let some = some_posting P (λ none. let more : 0 < len P = ltb-true 0 (len P) at.2 in let same : len P
      ≡ length (entries P) = len-entries P in omega (arith, more, same, none)) in (
        get_or names some.0 [],
        ap is_some (posting_walk root nodes trie names u (At at.0) (get_or names some.0 []) at.1
            ∙ at_name names are P some.0 (numbered at.0 some.0 some.1 some.2) ∙ some.2),
      )

  token_posted : (u : Text) → IsToken (table_of root nodes names) u → Posted root nodes trie u
  token_posted u token = by (posting (table_of root nodes names) u token.0) refl
    where
      number : (j n : ℕ) → at names token.0 (postings_at nodes j) ≡ Some n → is_posted nodes j ≡ true
      number j n e =
          let P = postings_at nodes j in
          let there = number_there names token.0 P n e in
          let same : len P ≡ length (entries P) = len-entries P in
          lt-ltb 0 (len P) (elim (cases_eq (len P) 0) [
            | inl none ↦ absurd (bare_posting P (sym same ∙ none) there.0 n there.2)
            | inr more ↦ omega (arith, more)
          ])

      place : (n : ℕ) (p : Place) → walk (step_of root nodes) Root u ≡ Some p
          → at names token.0 (entries_at root nodes p) ≡ Some n → Posted root nodes trie u
      place n Root to e = let none = bare_root names token.0 _ refl root nodes in absurd (cc)
      place n (At j) to e = (j, to, number j n e)

      by : (o : Option ℕ) → posting (table_of root nodes names) u token.0 ≡ o → Posted root nodes trie u
      by None is = absurd (false≢true (sym (ap is_some is) ∙ token.1))
      by (Some n) is = reached (walk (step_of root nodes) Root u) refl
        where
          reached : (w : Option Place) → walk (step_of root nodes) Root u ≡ w → Posted root nodes trie u
          reached None to = let none = posting_none root nodes trie names u token.0 to in absurd (cc)
          reached (Some p) to = place n p to (sym (posting_walk root nodes trie names u p token.0 to) ∙ is)

  module _ (t : Text) where
    pub tokens_at : (k : ℕ) → walk (step_of root nodes) Root t ≡ Some (At k) → (u : Text)
        → IsTrue (is_listed u (posted nodes (node_visits nodes t k))) ↔ IsTokenFrom (table_of root nodes names) t u
    tokens_at k to u = (
      (λ h. let there = at_from root nodes trie t k to u (listed_from u _ h) in (there.0, posted_token u there.1)),
      (λ token. listed_to u _ (at_to root nodes trie t k to u token.0 (token_posted u token.1))),
    )

    pub tokens_root : walk (step_of root nodes) Root t ≡ Some Root → (u : Text)
        → IsTrue (is_listed u (posted nodes (below (node_visits nodes) t root)))
        ↔ IsTokenFrom (table_of root nodes names) t u
    tokens_root to u = (
      (λ h. let there = root_from root nodes trie t to u (listed_from u _ h) in (there.0, posted_token u there.1)),
      (λ token. listed_to u _ (root_to root nodes trie t to u token.0 (token_posted u token.1))),
    )

    pub tokens_none : walk (step_of root nodes) Root t ≡ None → (u : Text) → IsTrue (is_listed u [])
        ↔ IsTokenFrom (table_of root nodes names) t u
    tokens_none none u = (
      (λ h. absurd (false≢true h)),
      (λ token.
          let at = token_posted u token.1 in
          let to = walk_front (step_of root nodes) t token.0.0 Root (At at.0)
          (ap (walk (step_of root nodes) Root) token.0.1 ∙ at.1) in
          absurd (let both : None ≡ Some to.0 = sym none ∙ to.1 in cc)),
    )

pub none_rise : IsStrictlySortedBy text_cmp []
unfolding IsStrictlySortedBy
none_rise = tt
