-- What is read of the text of an index is what was printed.
use Rattle.std.proofs.Common.{◌≡◌, ℕ, List, sym, subst}
use Rattle.serde_json.specs.Data.{Data}
use Rattle.serde_json.specs.Written.{compact_text}
use Rattle.elasticlunr_commands.specs.Standing.{Plan}
use Rattle.elasticlunr_error.specs.Text.{Bytes}
use Rattle.elasticlunr_print.specs.Printed.{IsTextOf}
use Rattle.elasticlunr_print.specs.Shape.{HasParts, HasTries}
use Rattle.elasticlunr_print.proofs.Plain.{IsPlain}
use Rattle.elasticlunr_print.proofs.PlainValues.{value_plain}
use Rattle.elasticlunr_print.proofs.Shapes.{index_parts, one_fields, one_store, one_tries}
use Rattle.elasticlunr_print.proofs.Telling.{HasOneContents, HasOneTable}
use Rattle.elasticlunr_search.proofs.Whole.{parts_of}
use Rattle.elasticlunr_search.specs.Fields.{IsIndexOf}
use Rattle.elasticlunr_search.specs.Readers.{ReadsAs}
use Rattle.elasticlunr_store.specs.Contents.{Contents}
use Rattle.elasticlunr_trie.specs.Table.{Table}

pub record AreRead (plan : Plan) (tables : List Table) (contents : Contents) (names : List Bytes) (others : List Table)
    (kept : Contents) : Type 0 where
  pub fields : names ≡ plan.fields
  pub tries : others ≡ tables
  pub store : kept ≡ contents

pub are_read : HasOneTable → HasOneContents → (plan : Plan) (tables : List Table) (contents : Contents) (text : List ℕ)
    (v : Data) (names : List Bytes) (others : List Table) (kept : Contents)
    → IsTextOf compact_text plan tables contents text → ReadsAs text v → IsIndexOf v names others kept
    → AreRead plan tables contents names others kept
are_read one_table one_contents plan tables contents text v names others kept print reads is =
    let same : v ≡ print.value = print.read_as.no_other_within reads.0 v reads.1 in
    let its : HasParts v plan.fields tables contents = subst (λ w. HasParts w plan.fields tables contents) (sym same)
    (index_parts plan tables contents print.value print.of_index) in
    let plain : IsPlain v = subst IsPlain (sym same)
    (value_plain plan tables contents print.value print.of_index.printed) in
    let has : HasParts v names others kept = parts_of v names others kept plain is in
    let fields : names ≡ plan.fields = one_fields v names plan.fields has.fields its.fields in
    record {
      fields = fields;
      tries = one_tries one_table v plan.fields others tables (subst (λ ns. HasTries v ns others) fields has.tries)
          its.tries;
      store = one_store one_contents v kept contents has.store its.store;
    }
