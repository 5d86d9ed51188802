-- What an index holds that has not failed, and what is printed of it.
use Rattle.std.proofs.Common.{◌≡◌, ◌<◌, ℕ, List, length, get_or, Option, Some, Result, Ok, Err, true, refl, sym, ap}
use Rattle.std.proofs.Common.{subst, ◌∙◌}
use Rattle.std.proofs.lemmas.Option.{slice_get_read}
use Rattle.std.specs.Prelude.{IsSomeAnd, IfSome, IfOk, All}
use Rattle.elasticlunr_text.specs.Text.{bytes_of}
use Rattle.elasticlunr_trie.specs.Table.{Table, IsTable}
use Rattle.elasticlunr_store.specs.Contents.{Contents, IsStoreValue}
use Rattle.serde_json.specs.Data.{Data}
use Rattle.serde_json.specs.Read.{read}
use Rattle.elasticlunr_state.specs.declared.contents.IndexContents.{IndexContents}
use Rattle.elasticlunr_print.specs.declared.parts.Parts.{Parts}
use Rattle.elasticlunr_commands.specs.Fields.{all_differ}
use Rattle.elasticlunr_commands.specs.History.{Commands}
use Rattle.elasticlunr_print.specs.Parts.{IsPrinted, IsPrintedText}
use Rattle.elasticlunr_print.specs.Printed.{AreTrieValues, IsIndexValue, IsTextOf, index_object}
use Rattle.elasticlunr_commands.specs.Standing.{Plan, Holds, IsTableOf}

-- what an answer shows
pub if_ok : {T E : Type 0} (r : Result T E) (P Q : T → Type 0) → ((x : T) → P x → Q x) → IfOk r P → IfOk r Q
if_ok (Ok x) P Q f h = f x h
if_ok (Err e) P Q f h = h

pub both_ok : {T E : Type 0} (r : Result T E) (P Q : T → Type 0) → IfOk r P → IfOk r Q → IfOk r (λ x. P x × Q x)
both_ok (Ok x) P Q p q = (p, q)
both_ok (Err e) P Q p q = p

-- its contents
pub held : (plan : Plan) (there : Option IndexContents) (contents : IndexContents) (commands : Commands) → there
    ≡ Some contents
    → IsSomeAnd there (λ c. Holds plan commands c.tries.items c.store)
    → Holds plan commands contents.tries.items contents.store
held plan there contents commands is stands = subst (λ o. IsSomeAnd o (λ c. Holds plan commands c.tries.items c.store))
    is stands

-- the trie at a place is the table of the field of that number
pub table_of_held : (plan : Plan) (commands : Commands) (contents : IndexContents) (i : ℕ) (trie : Table)
    → i < length contents.tries.items → trie ≡ get_or contents.tries.items i trie
    → Holds plan commands contents.tries.items contents.store → IsTableOf commands i trie
table_of_held plan commands contents i trie inside read holds =
    subst (λ o. IfSome o (IsTableOf commands i)) (slice_get_read contents.tries.items (length contents.tries.items) i
    trie refl inside read) (holds.each i)

-- new tries beside the store of the same contents
pub held_beside : (plan : Plan) (tables : List Table) (contents same : IndexContents) (commands : Commands) → contents
    ≡ same
    → Holds plan commands tables contents.store → Holds plan commands tables same.store
held_beside plan tables contents same commands is holds =
    subst (λ (c : IndexContents). Holds plan commands tables c.store) is holds

-- what is so of its tries and its store is so of its parts
of_parts : (there : Option IndexContents) (contents : IndexContents) (tables : List Table) (kept : Contents)
    (Q : List Table → Contents → Type 0) → there ≡ Some contents
    → IsSomeAnd there (λ c. (c.tries.items ≡ tables) × (c.store ≡ kept)) → Q contents.tries.items contents.store
    → Q tables kept
of_parts there contents tables kept Q is has q =
    let own : (contents.tries.items ≡ tables)
    × (contents.store ≡ kept) = subst (λ o. IsSomeAnd o (λ c. (c.tries.items ≡ tables) × (c.store ≡ kept))) is has
    in
    subst (Q tables) own.1 (subst (λ ts. Q ts contents.store) own.0 q)

-- these are its parts
pub own_parts : (there : Option IndexContents) (contents : IndexContents) → there ≡ Some contents
    → IsSomeAnd there (λ c. (c.tries.items ≡ contents.tries.items) × (c.store ≡ contents.store))
own_parts there contents is = subst (λ o. IsSomeAnd o (λ c. (c.tries.items ≡ contents.tries.items)
    × (c.store ≡ contents.store))) (sym is) (refl, refl)

-- the parts are those of the plan and the contents
pub record ArePartsOf (plan : Plan) (contents : IndexContents) (parts : Parts) : Type 0 where
  pub fields : bytes_of parts.fields.now ≡ plan.fields
  pub reference_field : parts.ref_field.now ≡ plan.reference_field
  pub language : parts.language.now ≡ plan.language
  pub stages : bytes_of parts.stages.now ≡ plan.stages
  pub tries : parts.tries.now ≡ contents.tries.items
  pub store : parts.store.now ≡ contents.store

-- what they print is the value of the tries and the store
value_of_own : (plan : Plan) (contents : IndexContents) (parts : Parts) (value : Data) → ArePartsOf plan contents parts
    → IsPrinted parts value → IsIndexValue plan contents.tries.items contents.store value
value_of_own plan contents parts value are is = record {
  differ = subst (λ names. all_differ names ≡ true) are.fields is.differ;
  one_each = sym (ap length are.tries) ∙ is.one_each ∙ ap length are.fields;
  are_tables = subst (All IsTable) are.tries is.are_tables;
  printed = record {
    tries = is.printed.tries;
    documents = is.printed.documents;
    each_trie = subst (λ ts. AreTrieValues ts is.printed.tries) are.tries is.printed.each_trie;
    store = subst (λ c. IsStoreValue c is.printed.documents) are.store is.printed.store;
    whole = is.printed.whole
        ∙ (λ i. index_object (record {
          fields = are.fields i;
          reference_field = are.reference_field i;
          save =
              plan.save;
          language = are.language i;
          stages = are.stages i;
        }) is.printed.tries is.printed.documents);
  };
}

module _ (there : Option IndexContents) (contents : IndexContents) (parts : Parts) (plan : Plan) (tables : List Table)
    (kept : Contents) (is : there ≡ Some contents)
    (has : IsSomeAnd there (λ c. (c.tries.items ≡ tables) × (c.store ≡ kept))) (are : ArePartsOf plan contents parts)
  where
    -- so of the tables and the contents that the index has
    pub own_value : (value : Data) → IsPrinted parts value → IsIndexValue plan tables kept value
    own_value value printed = of_parts there contents tables kept (λ ts k. IsIndexValue plan ts k value) is has
        (value_of_own plan contents parts value are printed)

    -- and the text, too
    pub own_text : (text_of : Data → List ℕ) (text : List ℕ) → IsPrintedText text_of parts text
        → IsTextOf text_of plan tables kept text
    own_text text_of text printed = record {
      value = printed.value;
      of_index = own_value printed.value printed.of_index;
      written = printed.written;
      read_as = printed.read_as;
    }
