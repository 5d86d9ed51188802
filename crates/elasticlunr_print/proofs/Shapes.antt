-- What is read of a printed text has the parts that it was printed of.
use Rattle.std.proofs.Common.{◌≡◌, ℕ, suc, List, [], ◌∷◌, arith, Option, None, Some, codes, refl, sym, subst, ◌∙◌}
use Rattle.std.specs.Prelude.{IsSomeAnd, All}
use Rattle.std.specs.List.{AllZip}
use Rattle.elasticlunr_error.specs.Text.{Bytes}
use Rattle.elasticlunr_trie.specs.Table.{Table, IsTable}
use Rattle.elasticlunr_trie.specs.Tree.{IsTrieValue}
use Rattle.elasticlunr_store.specs.Contents.{Contents, IsStoreValue}
use Rattle.serde_json.specs.Data.{Data, array, string}
use Rattle.serde_json.specs.Find.{get}
use Rattle.elasticlunr_commands.specs.History.{Commands}
use Rattle.elasticlunr_print.specs.Printed.{texts, IsIndexValue, IsPrintOf, read_within}
use Rattle.elasticlunr_print.specs.Shape.{HasFields, HasTrie, HasTries, HasStore, HasLanguage, HasParts, ArePartsOf}
use Rattle.elasticlunr_commands.specs.Standing.{Plan, Holds}
use Rattle.elasticlunr_commands.proofs.OneZip.{one_zip}
use Rattle.elasticlunr_print.proofs.Held.{fields_held, store_held, tries_held}
use Rattle.elasticlunr_print.proofs.Telling.{HasOneTable, HasOneContents, same_texts}

both_of : (P Q : Data → Type 0) (o : Option Data) → IsSomeAnd o P → IsSomeAnd o Q → (x : Data) × P x × Q x
both_of P Q None p q = absurd p
both_of P Q (Some x) p q = (x, p, q)

-- a value has its parts once
pub one_fields : (v : Data) (names others : List Bytes) → HasFields v names → HasFields v others → names ≡ others
one_fields v names others one two =
    let both : Some (array (texts names)) ≡ Some (array (texts others)) = sym one ∙ two in
    let same : texts names ≡ texts others = cc (both) in
    same_texts names others same

pub one_language : (v : Data) (name other : Bytes) → HasLanguage v name → HasLanguage v other → name ≡ other
one_language v name other one two = let both : Some (string name) ≡ Some (string other) = sym one ∙ two in cc (both)

one_trie : HasOneTable → (index : Data) (name : Bytes) (T U : Table) → HasTrie index name T → HasTrie index name U → T
    ≡ U
one_trie only index name T U one two = let b = both_of (IsTrieValue T) (IsTrieValue U) (get name index) one.1 two.1 in
    only T U b.0 one.0 two.0 b.1 b.2

pub one_tries : HasOneTable → (v : Data) (names : List Bytes) (tables others : List Table) → HasTries v names tables
    → HasTries v names others → tables ≡ others
one_tries only v names tables others one two =
    let b = both_of (λ index. AllZip (HasTrie index) names tables) (λ index. AllZip (HasTrie index) names others)
    (get (codes "index") v) one two in
    one_zip (HasTrie b.0) (one_trie only b.0) names tables others b.1 b.2

pub one_store : HasOneContents → (v : Data) (c d : Contents) → HasStore v c → HasStore v d → c ≡ d
one_store only v c d one two = let b = both_of (IsStoreValue c) (IsStoreValue d) (get (codes "documentStore") v) one two
    in only c d b.0 b.1 b.2

are_tries : (index : Data) (names : List Bytes) (tables : List Table) → All IsTable tables
    → AllZip (λ name table. IsSomeAnd (get name index) (IsTrieValue table)) names tables
    → AllZip (HasTrie index) names tables
are_tries index [] [] are all = tt
are_tries index [] (T ∷ tables) are all = absurd all
are_tries index (n ∷ names) [] are all = absurd all
are_tries index (n ∷ names) (T ∷ tables) are all =
    ((are 0 T (omega arith), all.0), are_tries index names tables (λ k d h. are (suc k) d (omega arith)) all.1)

have_tries : (o : Option Data) (names : List Bytes) (tables : List Table) → All IsTable tables
    → IsSomeAnd o (λ index. AllZip (λ name table. IsSomeAnd (get name index) (IsTrieValue table)) names tables)
    → IsSomeAnd o (λ index. AllZip (HasTrie index) names tables)
have_tries None names tables are has = absurd has
have_tries (Some index) names tables are has = are_tries index names tables are has

-- the value of an index has its parts
pub index_parts : (plan : Plan) (tables : List Table) (contents : Contents) (v : Data)
    → IsIndexValue plan tables contents v → HasParts v plan.fields tables contents
index_parts plan tables contents v of_index = record {
  fields = fields_held plan tables contents v of_index.printed;
  tries = have_tries _ plan.fields tables of_index.are_tables
      (tries_held plan tables contents v of_index.differ of_index.one_each of_index.printed);
  store = subst (λ o. IsSomeAnd o (IsStoreValue contents)) (sym (store_held plan tables contents v of_index.printed))
      refl;
}

-- the value of a print has what it was printed of
pub parts_held : (plan : Plan) (commands : Commands) (text : List ℕ) (p : IsPrintOf plan commands text)
    → HasParts p.value plan.fields p.tables p.contents
parts_held plan commands text p = index_parts plan p.tables p.contents p.value
    (record { differ = p.differ; one_each = p.holds.one_each; are_tables = p.are_tables; printed = p.printed })

-- what a reader read of a print is what it was printed of
pub parts_read : HasOneTable → HasOneContents → (limit : ℕ) (plan : Plan) (commands : Commands) (text : List ℕ)
    (v : Data) (names : List Bytes) (tables : List Table) (contents : Contents)
    → IsPrintOf plan commands text → read_within limit text ≡ Some v → HasParts v names tables contents
    → ArePartsOf plan commands names tables contents
parts_read one_table one_contents limit plan commands text v names tables contents p reads has =
    let its : HasParts v plan.fields p.tables p.contents = subst (λ w. HasParts w plan.fields p.tables p.contents)
    (sym (p.read_as.no_other_within limit v reads)) (parts_held plan commands text p) in
    let fields : names ≡ plan.fields = one_fields v names plan.fields has.fields its.fields in
    let same : tables ≡ p.tables = one_tries one_table v plan.fields tables p.tables
    (subst (λ ns. HasTries v ns tables) fields has.tries) its.tries in
    let kept : contents ≡ p.contents = one_store one_contents v contents p.contents has.store its.store in
    record {
      fields = fields;
      holds = subst (λ ts. Holds plan commands ts contents) (sym same)
          (subst (Holds plan commands p.tables) (sym kept) p.holds);
    }
