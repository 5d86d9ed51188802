-- The value of an index is plain.
use Rattle.std.proofs.Common.{◌≡◌, inl, inr, List, [], ◌∷◌, ◌++◌, Some, codes, refl, sym, ap, subst, ◌∙◌}
use Rattle.std.specs.List.{zip}
use Rattle.std.specs.FinMap as map
use Rattle.elasticlunr_error.specs.Text.{Text, Bytes}
use Rattle.elasticlunr_trie.specs.Table.{Table, Postings, postings}
use Rattle.elasticlunr_trie.specs.Tree.{IsTree, AreParts, IsTrieValue, frequency, frequencies}
use Rattle.elasticlunr_store.specs.Contents.{Contents, store_value}
use Rattle.elasticlunr_json.specs.Maps.{keyed, count}
use Rattle.serde_json.specs.Data.{Data, null, boolean, number, string, array, object, unsigned, Members, no_members}
use Rattle.serde_json.specs.Data.{member}
use Rattle.serde_json.specs.Find.{get_member}
use Rattle.elasticlunr_commands.specs.Standing.{Plan}
use Rattle.elasticlunr_print.specs.Printed.{texts, AreTrieValues, trie, index_pairs, IsValueOf}
use Rattle.elasticlunr_print.proofs.Members.{AreFound, all_found}
use Rattle.elasticlunr_print.proofs.Plain.{IsPlain, ArePlainItems, ArePlain, keyed_plain, AllPlain, object_plain}

frequencies_plain : (P : Postings) → IsPlain (object (frequencies (map.entries P)))
frequencies_plain P = keyed_plain frequency (λ n. ((tt, tt), (tt, tt))) P

module _ (T : Table) where
  abbrev WillBePlain : Data → Type 0
  WillBePlain d = (p : Text) → IsTree T p d → IsPlain d

  abbrev AllWillBePlain : Members → Type 0
  AllWillBePlain no_members = Unit {0}
  AllWillBePlain (member k d ms) = WillBePlain d × AllWillBePlain ms

  parts_plain : (p : Text) (all ms : Members) → get_member (codes "docs") all
      ≡ Some (object (frequencies (map.entries (postings T p))))
      → get_member (codes "df") all ≡ Some (number (unsigned (map.len (postings T p)))) → AllWillBePlain ms
      → AreFound all ms → AreParts T p ms → ArePlain ms
  parts_plain p all no_members docs df will found parts = tt
  parts_plain p all (member k d ms) docs df will found parts = (
    elim parts.0 [
      | inl is ↦
          let both : Some d ≡ Some (object (frequencies (map.entries (postings T p)))) = sym found.0
          ∙ ap (λ q. get_member q all) is ∙ docs in
          let here : d ≡ object (frequencies (map.entries (postings T p))) = cc in
          subst IsPlain (sym here) (frequencies_plain (postings T p))
      | inr (inl is) ↦
          let both : Some d ≡ Some (number (unsigned (map.len (postings T p)))) = sym found.0
          ∙ ap (λ q. get_member q all) is ∙ df in
          let here : d ≡ number (unsigned (map.len (postings T p))) = cc in
          subst IsPlain (sym here) tt
      | inr (inr letter) ↦ will.0 (p ++ letter.0 ∷ []) letter.2
    ],
    parts_plain p all ms docs df will.1 found.1 parts.1,
  )

  mutual
    tree_plain : (d : Data) → WillBePlain d
    tree_plain null p tree = absurd tree
    tree_plain (boolean b) p tree = absurd tree
    tree_plain (number n) p tree = absurd tree
    tree_plain (string s) p tree = absurd tree
    tree_plain (array ds) p tree = absurd tree
    tree_plain (object ms) p tree = (
      tree.0,
      parts_plain p ms ms tree.1 tree.2 (all_plain ms) (all_found ms tree.0)
          tree.4,
    )

    all_plain : (ms : Members) → AllWillBePlain ms
    all_plain no_members = tt
    all_plain (member k d ms) = (tree_plain d, all_plain ms)

  trie_plain : (v : Data) → IsTrieValue T v → IsPlain v
  trie_plain v value = subst IsPlain (sym value.1) ((tt, tt), (tree_plain value.0 [] value.2, tt))

store_plain : (c : Contents) → IsPlain (store_value c)
store_plain c = (
  ((refl, (refl, (refl, tt))), ((refl, (refl, tt)), ((refl, tt), (tt, tt)))),
  (
    keyed_plain (keyed count) (λ m. keyed_plain count (λ n. tt) m) c.lengths,
    (keyed_plain (keyed string) (λ m. keyed_plain string (λ s. tt) m) c.texts, (tt, (tt, tt))),
  ),
)

texts_plain : (names : List Bytes) → ArePlainItems (texts names)
texts_plain [] = tt
texts_plain (name ∷ names) = (tt, texts_plain names)

tries_plain : (names : List Bytes) (tables : List Table) (values : List Data) → AreTrieValues tables values
    → AllPlain (zip names values)
tries_plain [] tables values are = tt
tries_plain (name ∷ names) tables [] are = tt
tries_plain (name ∷ names) [] (value ∷ values) are = elim are [ ]
tries_plain (name ∷ names) (table ∷ tables) (value ∷ values) (trie is are) =
    (trie_plain table value is, tries_plain names tables values are)

-- a value of an index is plain
pub value_plain : (plan : Plan) (tables : List Table) (contents : Contents) (value : Data)
    → IsValueOf plan tables contents value → IsPlain value
value_plain plan tables contents value is =
    let documents : IsPlain is.documents = subst IsPlain (sym is.store) (store_plain contents) in
    let tries = object_plain (zip plan.fields is.tries) (tries_plain plan.fields tables is.tries is.each_trie) in
    subst IsPlain (sym is.whole) (object_plain (index_pairs plan is.tries is.documents)
    (documents, (texts_plain plan.fields, (tries, (tt, (texts_plain plan.stages, (tt, (tt, tt))))))))
