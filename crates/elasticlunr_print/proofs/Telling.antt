-- A value tells what it was printed of.
use Rattle.std.proofs.Common.{◌≡◌, suc, List, [], ◌∷◌, length, arith, Bool, true, false, not, ◌&&◌, ◌||◌, true≢false}
use Rattle.std.proofs.Common.{Some, bytes_eq, refl, sym, ap, subst, ◌∙◌}
use Rattle.std.proofs.lemmas.Slice.Eq.{bytes_eq-Decides}
use Rattle.std.specs.Prelude.{All}
use Rattle.std.specs.List.{zip}
use Rattle.elasticlunr_error.specs.Text.{Bytes}
use Rattle.elasticlunr_trie.specs.Table.{Table, IsTable}
use Rattle.elasticlunr_trie.specs.Tree.{IsTrieValue}
use Rattle.elasticlunr_store.specs.Contents.{Contents, IsStoreValue}
use Rattle.serde_json.specs.Data.{Data, string, array, object, Items, Members, no_members, member, put}
use Rattle.serde_json.specs.Find.{get_member}
use Rattle.serde_json.proofs.Views.{get_member-put, get_member-put_other}
use Rattle.elasticlunr_commands.specs.Fields.{has_name, all_differ}
use Rattle.elasticlunr_commands.specs.Standing.{Plan}
use Rattle.elasticlunr_print.specs.Printed.{texts, members_after, index_object, AreTrieValues, trie, IsValueOf}
use Rattle.elasticlunr_print.specs.Printed.{PrintAlike}
use Rattle.elasticlunr_print.proofs.Sorting.{as_many}

pub same_texts : (xs ys : List Bytes) → texts xs ≡ texts ys → xs ≡ ys
same_texts [] [] e = refl
same_texts [] (y ∷ ys) e = cc (e)
same_texts (x ∷ xs) [] e = cc (e)
same_texts (x ∷ xs) (y ∷ ys) e =
    let here : x ≡ y = cc (e) in
    let rest : texts xs ≡ texts ys = cc (e) in
    let more = same_texts xs ys rest in
    λ i. here i ∷ more i

both_false : (a b : Bool) → (a || b) ≡ false → (a ≡ false) × (b ≡ false)
both_false true b e = absurd (true≢false e)
both_false false b e = (refl, e)

pub both_true : (a b : Bool) → (not a && b) ≡ true → (a ≡ false) × (b ≡ true)
both_true true b e = absurd (true≢false (sym e))
both_true false b e = (refl, e)

either : (a b : Bool) → b ≡ true → (a || b) ≡ true
either true b e = refl
either false b e = e

-- values under other names leave what is found
pub untouched : (q : Bytes) (names : List Bytes) (values : List Data) (before : Members) → has_name q names ≡ false
    → get_member q (members_after before (zip names values)) ≡ get_member q before
untouched q [] values before none = refl
untouched q (name ∷ names) [] before none = refl
untouched q (name ∷ names) (value ∷ values) before none =
    let parts = both_false (bytes_eq name q) (has_name q names) none in
    untouched q names values (put name value before) parts.1
    ∙ get_member-put_other q name value before (λ is. true≢false (sym ((bytes_eq-Decides name q).1 (sym is)) ∙ parts.0))

-- where names differ, members tell the values that were put in
told : (names : List Bytes) (xs ys : List Data) (before after : Members) → all_differ names ≡ true → length xs
    ≡ length names → length ys ≡ length names
    → ((q : Bytes) → has_name q names ≡ true → get_member q (members_after before (zip names xs))
    ≡ get_member q (members_after after (zip names ys))) → xs ≡ ys
told [] [] [] before after differ first second same = refl
told [] [] (y ∷ ys) before after differ first second same = absurd (omega arith)
told [] (x ∷ xs) ys before after differ first second same = absurd (omega arith)
told (name ∷ names) [] ys before after differ first second same = absurd (omega arith)
told (name ∷ names) (x ∷ xs) [] before after differ first second same = absurd (omega arith)
told (name ∷ names) (x ∷ xs) (y ∷ ys) before after differ first second same =
    let parts = both_true (has_name name names) (all_differ names) differ in
    let both : Some x ≡ Some y = sym (get_member-put name x before)
    ∙ sym (untouched name names xs (put name x before) parts.0)
    ∙ same name (ap (λ b. b || has_name name names) ((bytes_eq-Decides name name).1 refl))
    ∙ untouched name names ys (put name y after) parts.0 ∙ get_member-put name y after in
    let here : x ≡ y = cc (both) in
    let more = told names xs ys (put name x before) (put name y after) parts.1 (omega arith) (omega arith)
    (λ q there. same q (either (bytes_eq name q) (has_name q names) there)) in
    λ i. here i ∷ more i

-- what the store promises of values: they come from one table, and from one contents
abbrev pub HasOneTable : Type 0
HasOneTable = (T U : Table) (v : Data) → IsTable T → IsTable U → IsTrieValue T v → IsTrieValue U v → T ≡ U

abbrev pub HasOneContents : Type 0
HasOneContents = (c d : Contents) (v : Data) → IsStoreValue c v → IsStoreValue d v → c ≡ d

first_of_all : (T : Table) (ts : List Table) → All IsTable (T ∷ ts) → IsTable T
first_of_all T ts all = all 0 T (omega arith)

rest_of_all : (T : Table) (ts : List Table) → All IsTable (T ∷ ts) → All IsTable ts
rest_of_all T ts all = λ k d h. all (suc k) d (omega arith)

same_tables : HasOneTable → (ts us : List Table) (vs : List Data) → All IsTable ts → All IsTable us
    → AreTrieValues ts vs → AreTrieValues us vs → ts ≡ us
same_tables only [] [] vs first second one two = refl
same_tables only [] (U ∷ us) [] first second one two = elim two [ ]
same_tables only [] (U ∷ us) (v ∷ vs) first second one two = elim one [ ]
same_tables only (T ∷ ts) us [] first second one two = elim one [ ]
same_tables only (T ∷ ts) [] (v ∷ vs) first second one two = elim two [ ]
same_tables only (T ∷ ts) (U ∷ us) (v ∷ vs) first second (trie here rest) (trie here2 rest2) =
    let same = only T U v (first_of_all T ts first) (first_of_all U us second) here here2 in
    let more = same_tables only ts us vs (rest_of_all T ts first) (rest_of_all U us second) rest rest2 in
    λ i. same i ∷ more i

-- what equal values are made of is equal
same_members : (ms ns : Members) → object ms ≡ object ns → ms ≡ ns
same_members ms ns e = cc (e)

same_items : (ds es : Items) → array ds ≡ array es → ds ≡ es
same_items ds es e = cc (e)

same_text : (s t : Bytes) → string s ≡ string t → s ≡ t
same_text s t e = cc (e)

same_here : (k l : Bytes) (d e : Data) (ms ns : Members) → member k d ms ≡ member l e ns → d ≡ e
same_here k l d e ms ns is = cc (is)

same_later : (k l : Bytes) (d e : Data) (ms ns : Members) → member k d ms ≡ member l e ns → ms ≡ ns
same_later k l d e ms ns is = cc (is)

-- a value tells the plan as far as it is printed, the tables and the contents
pub told_by_value : HasOneTable → HasOneContents → (plan other : Plan) (tables others : List Table)
    (contents kept : Contents) (v : Data) → all_differ plan.fields ≡ true
    → length tables ≡ length plan.fields → All IsTable tables → length others ≡ length other.fields → All IsTable others
    → IsValueOf plan tables contents v → IsValueOf other others kept v → PrintAlike plan other × (tables ≡ others)
    × (contents ≡ kept)
told_by_value one_table one_contents plan other tables others contents kept v differ many are many_others are_others one
    two =
    let both : index_object plan one.tries one.documents ≡ index_object other two.tries two.documents = sym one.whole
    ∙ two.whole in
    let first = same_members _ _ both in
    let documents = same_here _ _ one.documents two.documents _ _ first in
    let second = same_later _ _ _ _ _ _ first in
    let names = same_items (texts plan.fields) (texts other.fields) (same_here _ _ _ _ _ _ second) in
    let third = same_later _ _ _ _ _ _ second in
    let index = same_members (members_after no_members (zip plan.fields one.tries))
    (members_after no_members (zip other.fields two.tries)) (same_here _ _ _ _ _ _ third) in
    let fourth = same_later _ _ _ _ _ _ third in
    let language = same_text plan.language other.language (same_here _ _ _ _ _ _ fourth) in
    let fifth = same_later _ _ _ _ _ _ fourth in
    let stages = same_items (texts plan.stages) (texts other.stages) (same_here _ _ _ _ _ _ fifth) in
    let sixth = same_later _ _ _ _ _ _ fifth in
    let reference = same_text plan.reference_field other.reference_field (same_here _ _ _ _ _ _ sixth) in
    let fields = same_texts plan.fields other.fields names in
    let together = index ∙ ap (λ ns. members_after no_members (zip ns two.tries)) (sym fields) in
    let tries = told plan.fields one.tries two.tries no_members no_members differ
    (as_many tables one.tries one.each_trie ∙ many)
    (as_many others two.tries two.each_trie ∙ many_others ∙ ap length (sym fields))
    (λ q there. ap (get_member q) together) in (
      record {
        same_fields = fields;
        same_reference_field = reference;
        same_language = language;
        same_stages =
            same_texts plan.stages other.stages stages;
      },
      same_tables one_table tables others two.tries are are_others (subst (AreTrieValues tables) tries one.each_trie)
          two.each_trie,
      one_contents contents kept two.documents (sym documents ∙ one.store) two.store,
    )
