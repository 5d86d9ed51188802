-- Tables after changes.
use Rattle.std.proofs.Common.{◌≡◌, ℕ, Option, Some, None, option_map, unwrap_or, ◌⊎◌, ◌↔◌, inl, inr, IsTrue, is_some}
use Rattle.std.proofs.Common.{List, [], ◌∷◌, ◌++◌, refl, sym, ap, subst, ◌∙◌}
use mathlib.Core.Bool.{false≢true}
use Rattle.std.specs.Ordering.{nat_cmp}
use Rattle.std.specs.Cmp.Lexicographic.{slice_cmp}
use Rattle.std.proofs.lemmas.Cmp.{nat_list_cmp_total}
use Rattle.std.specs.FinMap.{get, empty, len, len-empty, get-insert, get-empty}
use Rattle.elasticlunr_error.specs.Text.{Text, Bytes}
use Rattle.elasticlunr_trie_nodes.specs.Table.{Table, Postings, postings, new_table, knows, IsPrefix, Change, add}
use Rattle.elasticlunr_trie_nodes.specs.Table.{remove, IsChanged, AreChanged, IsAdded}
use Rattle.elasticlunr_json.proofs.Texts.{same_or_not}

-- s begins a token that was added
abbrev pub Begins : Text → List Change → Type 0
Begins s changes = (t : Text) × IsAdded t changes × IsPrefix s t

later : (s : Text) (c : Change) (changes : List Change) → Begins s changes → Begins s (c ∷ changes)
later s c changes b =
    let added = b.1 in
    (b.0, (c ∷ added.0, added.1, added.2, added.3, ap (λ cs. c ∷ cs) added.4), b.2)

empty_prefix : (s t : Text) → t ≡ [] → IsPrefix s t → s ≡ []
empty_prefix [] t is prefix = refl
empty_prefix (c ∷ s) t is prefix = let both : c ∷ (s ++ prefix.0) ≡ [] = prefix.1 ∙ is in absurd (cc)

first_or_later : (s : Text) (c : Change) (changes : List Change) → Begins s (c ∷ changes)
    → ((t : Text) × (r : Bytes) × (n : ℕ) × (c ≡ add t r n) × IsPrefix s t) ⊎ Begins s changes
first_or_later s c changes (t, ([], after, r, n, is), prefix) = let here : c
    ≡ add t r n = cc in inl (t, r, n, here, prefix)
first_or_later s c changes (t, (d ∷ before, after, r, n, is), prefix) = let rest : changes ≡ before ++ add t r n
    ∷ after = cc in inr (t, (before, after, r, n, rest), prefix)

-- what one change makes known
known_between : (c : Change) (old new : Table) → IsTrue (knows old []) → IsChanged c old new → (s : Text)
    → IsTrue (knows new s) ↔ (IsTrue (knows old s)
    ⊎ ((t : Text) × (r : Bytes) × (n : ℕ) × (c ≡ add t r n) × IsPrefix s t))
known_between (remove t r) old new root is s = (
  λ k. inl (sym (is.known s) ∙ k),
  λ e. elim e [
    | inl k ↦ is.known s ∙ k
    | inr here ↦ let bad : remove t r
        ≡ add here.0 here.1 here.2 = here.3 in absurd (cc)
  ],
)
known_between (add t r n) old new root is s = elim (same_or_not t []) [
  | inl none ↦
      let same = is.1 none in (
        λ k. inl (ap (λ T. knows T s) (sym same) ∙ k),
        λ e. elim e [
          | inl k ↦ ap (λ T. knows T s) same ∙ k
          | inr here ↦
              let is_here : add t r n ≡ add here.0 here.1 here.2 = here.3 in
              let token : here.0 ≡ t = cc in
              ap (λ T. knows T s) same ∙ ap (knows old) (empty_prefix s here.0 (token ∙ none) here.4) ∙ root
        ],
      )
  | inr some ↦
      let grows = (is.0 some).known s in (
        λ k. elim (grows.0 k) [ inl old_known ↦ inl old_known | inr prefix ↦ inr (t, r, n, refl, prefix) ],
        λ e. elim e [
          | inl k ↦ grows.1 (inl k)
          | inr here ↦
              let is_here : add t r n ≡ add here.0 here.1 here.2 = here.3 in
              let token : here.0 ≡ t = cc in
              grows.1 (inr (subst (IsPrefix s) token here.4))
        ],
      )
]

-- the new table knows the empty text alone
new_root : IsTrue (knows new_table [])
new_root = ap is_some (get-insert nat_list_cmp_total empty [] empty [])

new_alone : (s : Text) → IsTrue (knows new_table s) → s ≡ []
new_alone [] known = refl
new_alone (c ∷ s) known = absurd (false≢true
    (sym (ap is_some (get-insert nat_list_cmp_total empty [] empty (c ∷ s) ∙ get-empty (slice_cmp nat_cmp) (c ∷ s)))
    ∙ known))

-- what is known after changes
known_after : (changes : List Change) (old new : Table) → IsTrue (knows old []) → AreChanged changes old new
    → (s : Text) → IsTrue (knows new s) ↔ (IsTrue (knows old s) ⊎ Begins s changes)
known_after [] old new root is s = (
  λ k. inl (ap (λ T. knows T s) (sym is) ∙ k),
  λ e. elim e [ inl k ↦ ap (λ T. knows T s) is ∙ k | inr b ↦ none b ],
)
  where
    none : Begins s [] → IsTrue (knows new s)
    none (t, ([], after, r, n, e), prefix) = absurd (cc)
    none (t, (d ∷ before, after, r, n, e), prefix) = absurd (cc)
known_after (c ∷ changes) old new root (between, change, more) s =
    let mid = known_between c old between root change in
    let rest = known_after changes between new ((mid []).1 (inl root)) more s in (
      λ k. elim (rest.0 k) [
        | inl known ↦ elim ((mid s).0 known) [
          | inl before ↦ inl before
          | inr here ↦
              inr (here.0, ([], changes, here.1, here.2, ap (λ d. d ∷ changes) here.3), here.4)
        ]
        | inr b ↦ inr (later s c changes b)
      ],
      λ e. rest.1 (elim e [
        | inl before ↦ inl ((mid s).1 (inl before))
        | inr b ↦ elim (first_or_later s c changes b) [ inl here ↦ inl ((mid s).1 (inr here)) | inr after ↦ inr after ]
      ]),
    )

-- from the new table on
pub known_after_new : (changes : List Change) (T : Table) → AreChanged changes new_table T → (s : Text)
    → IsTrue (knows T s) ↔ ((s ≡ []) ⊎ ((t : Text) × IsAdded t changes × IsPrefix s t))
known_after_new changes T is s =
    let whole = known_after changes new_table T new_root is s in (
      λ k. elim (whole.0 k) [ inl old ↦ inl (new_alone s old) | inr b ↦ inr b ],
      λ e. whole.1 (elim e [ inl none ↦ inl (ap (knows new_table) none ∙ new_root) | inr b ↦ inr b ]),
    )

-- the document frequency
pub counted : (T : Table) (t : Text) → len (postings T t) ≡ unwrap_or (option_map len (get T t)) 0
counted T t = by (get T t)
  where
    by : (o : Option Postings) → len (unwrap_or o empty) ≡ unwrap_or (option_map len o) 0
    by None = len-empty (slice_cmp nat_cmp) ℕ
    by (Some P) = refl
