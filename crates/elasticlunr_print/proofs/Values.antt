-- Values, made piece by piece.
use Rattle.std.proofs.Common.{◌≡◌, List, [], ◌∷◌, ◌++◌, length, arith, codes, refl, ap, ◌∙◌}
use Rattle.std.specs.List.{zip, All}
use Rattle.std.proofs.lemmas.List.Elements.{All-cons, All-nil}
use Rattle.elasticlunr_error.specs.Text.{Bytes}
use Rattle.elasticlunr_trie.specs.Table.{Table, IsTable}
use Rattle.elasticlunr_trie.specs.Tree.{IsTrieValue}
use Rattle.serde_json.specs.Data.{Data, string, array, object, no_items, item, Members, no_members, put}
use Rattle.serde_json.specs.View.{view, items_view}
use Rattle.serde_json.specs.declared.value.Value.{Value}
use Rattle.elasticlunr_commands.specs.Standing.{Plan}
use Rattle.elasticlunr_print.specs.Printed.{texts, members_after, object_of, index_object, AreTrieValues, no_tries}
use Rattle.elasticlunr_print.specs.Printed.{trie}

-- one more text at the end
pub texts_push : (values : List Value) (v : Value) (names : List Bytes) (name : Bytes) → items_view values ≡ texts names
    → view v ≡ string name → items_view (values ++ v ∷ []) ≡ texts (names ++ name ∷ [])
texts_push [] v [] name e is = ap (λ d. item d no_items) is
texts_push [] v (n ∷ names) name e is = cc (e)
texts_push (w ∷ values) v [] name e is = cc (e)
texts_push (w ∷ values) v (n ∷ names) name e is =
    let here : view w ≡ string n = cc (e) in
    let later : items_view values ≡ texts names = cc (e) in
    ap (λ d. item d (items_view (values ++ v ∷ []))) here
    ∙ ap (item (string n)) (texts_push values v names name later is)

-- the seven members of an index, put in one after the other
pub seven_members : (plan : Plan) (tries : List Data) (documents fields index language stages reference version : Data)
    (none first second third fourth fifth sixth all : Members)
    → fields ≡ array (texts plan.fields) → index ≡ object_of (zip plan.fields tries) → language ≡ string plan.language
    → stages ≡ array (texts plan.stages)
    → reference ≡ string plan.reference_field → version ≡ string (codes "0.9.5")
    → none ≡ no_members → first ≡ put (codes "documentStore") documents none → second
    ≡ put (codes "fields") fields first → third ≡ put (codes "index") index second
    → fourth ≡ put (codes "lang") language third → fifth ≡ put (codes "pipeline") stages fourth → sixth
    ≡ put (codes "ref") reference fifth → all ≡ put (codes "version") version sixth
    → object all ≡ index_object plan tries documents
seven_members plan tries documents fields index language stages reference version none first second third fourth fifth
    sixth all f x l s r v e0 e1 e2 e3 e4 e5 e6 e7 =
    let to_first = e1 ∙ ap (put (codes "documentStore") documents) e0 in
    let to_second = e2 ∙ (λ i. put (codes "fields") (f i) (to_first i)) in
    let to_third = e3 ∙ (λ i. put (codes "index") (x i) (to_second i)) in
    let to_fourth = e4 ∙ (λ i. put (codes "lang") (l i) (to_third i)) in
    let to_fifth = e5 ∙ (λ i. put (codes "pipeline") (s i) (to_fourth i)) in
    let to_sixth = e6 ∙ (λ i. put (codes "ref") (r i) (to_fifth i)) in
    ap object (e7 ∙ (λ i. put (codes "version") (v i) (to_sixth i)))

-- whatever values these tables have, the members with them are those of all names with values of all tables
pub record WillHold (all_names : List Bytes) (all_tables : List Table) (names : List Bytes) (tables : List Table)
    (ms : Members) : Type 0 where
  pub as_many : length tables ≡ length names
  pub are_tables : All IsTable tables → All IsTable all_tables
  pub whole : (rest : List Data) → AreTrieValues tables rest → (values : List Data) × AreTrieValues all_tables values
      × (members_after ms (zip names rest) ≡ members_after no_members (zip all_names values))

module _ (all_names : List Bytes) (all_tables : List Table) where
  pub hold_none : length all_tables ≡ length all_names → WillHold all_names all_tables all_names all_tables no_members
  hold_none many = record { as_many = many; are_tables = λ are. are; whole = λ rest are. (rest, are, refl) }

  pub hold_more : (name : Bytes) (names : List Bytes) (table : Table) (tables : List Table) (ms : Members)
      (value : Data) → IsTable table → IsTrieValue table value
      → WillHold all_names all_tables (name ∷ names) (table ∷ tables) ms
      → WillHold all_names all_tables names tables (put name value ms)
  hold_more name names table tables ms value is_table is will = record {
    as_many = let many : length (table ∷ tables) ≡ length (name ∷ names) = will.as_many in omega arith;
    are_tables = λ are. will.are_tables (All-cons IsTable table tables is_table are);
    whole = λ rest are. will.whole (value ∷ rest) (trie is are);
  }

  pub hold_all : (names : List Bytes) (tables : List Table) (ms : Members)
      → WillHold all_names all_tables names tables ms → length names ≡ 0
      → (values : List Data) × AreTrieValues all_tables values × (ms ≡ members_after no_members (zip all_names values))
  hold_all [] [] ms will none = will.whole [] no_tries
  hold_all [] (table ∷ tables) ms will none = absurd (omega (arith, will.as_many))
  hold_all (name ∷ names) tables ms will none = absurd (omega arith)

  pub all_are_tables : (names : List Bytes) (tables : List Table) (ms : Members)
      → WillHold all_names all_tables names tables ms → length names ≡ 0 → All IsTable all_tables
  all_are_tables [] [] ms will none = will.are_tables (All-nil IsTable)
  all_are_tables [] (table ∷ tables) ms will none = absurd (omega (arith, will.as_many))
  all_are_tables (name ∷ names) tables ms will none = absurd (omega arith)
