-- Under each key of a value stands its part.
use Rattle.std.proofs.Common.{◌≡◌, List, [], ◌∷◌, length, arith, true, Some, codes, sym, ap, subst, ◌∙◌}
use Rattle.std.specs.Prelude.{IsSomeAnd}
use Rattle.std.specs.List.{zip, AllZip}
use Rattle.elasticlunr_error.specs.Text.{Bytes}
use Rattle.elasticlunr_trie.specs.Table.{Table}
use Rattle.elasticlunr_trie.specs.Tree.{IsTrieValue}
use Rattle.elasticlunr_store.specs.Contents.{Contents, store_value}
use Rattle.serde_json.specs.Data.{Data, string, array, Members, no_members, put}
use Rattle.serde_json.specs.Find.{get, get_member}
use Rattle.serde_json.proofs.Views.{get_member-put}
use Rattle.elasticlunr_commands.specs.Fields.{all_differ}
use Rattle.elasticlunr_commands.specs.Standing.{Plan}
use Rattle.elasticlunr_print.specs.Printed.{texts, members_after, AreTrieValues, trie, IsValueOf}
use Rattle.elasticlunr_print.proofs.Telling.{untouched, both_true}

pub fields_held : (plan : Plan) (tables : List Table) (contents : Contents) (v : Data)
    → IsValueOf plan tables contents v → get (codes "fields") v ≡ Some (array (texts plan.fields))
fields_held plan tables contents v is = ap (get (codes "fields")) is.whole

pub language_held : (plan : Plan) (tables : List Table) (contents : Contents) (v : Data)
    → IsValueOf plan tables contents v → get (codes "lang") v ≡ Some (string plan.language)
language_held plan tables contents v is = ap (get (codes "lang")) is.whole

pub store_held : (plan : Plan) (tables : List Table) (contents : Contents) (v : Data) → IsValueOf plan tables contents v
    → get (codes "documentStore") v ≡ Some (store_value contents)
store_held plan tables contents v is = ap (get (codes "documentStore")) is.whole ∙ ap Some is.store

tries_found : (names : List Bytes) (tables : List Table) (values : List Data) (before : Members) → all_differ names
    ≡ true → AreTrieValues tables values → length tables ≡ length names
    → AllZip (λ name table. IsSomeAnd (get_member name (members_after before (zip names values))) (IsTrieValue table))
    names tables
tries_found [] [] values before differ are many = tt
tries_found [] (T ∷ ts) values before differ are many = absurd (omega arith)
tries_found (name ∷ names) [] values before differ are many = absurd (omega arith)
tries_found (name ∷ names) (T ∷ ts) [] before differ are many = elim are [ ]
tries_found (name ∷ names) (T ∷ ts) (v ∷ vs) before differ (trie here rest) many =
    let parts = both_true _ (all_differ names) differ in
    let there = untouched name names vs (put name v before) parts.0 ∙ get_member-put name v before in (
      subst (λ o. IsSomeAnd o (IsTrieValue T)) (sym there) here,
      tries_found names ts vs (put name v before) parts.1 rest
          (omega arith),
    )

pub tries_held : (plan : Plan) (tables : List Table) (contents : Contents) (v : Data) → all_differ plan.fields ≡ true
    → length tables ≡ length plan.fields → IsValueOf plan tables contents v
    → IsSomeAnd (get (codes "index") v) (λ index. AllZip (λ name table. IsSomeAnd (get name index) (IsTrieValue table))
    plan.fields tables)
tries_held plan tables contents v differ many is =
    subst (λ d. IsSomeAnd (get (codes "index") d)
    (λ index. AllZip (λ name table. IsSomeAnd (get name index) (IsTrieValue table)) plan.fields tables))
    (sym is.whole)
    (tries_found plan.fields tables is.tries no_members differ is.each_trie many)
