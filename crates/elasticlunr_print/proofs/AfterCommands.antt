-- The value and the text of what commands leave.
use Rattle.std.proofs.Common.{◌≡◌, ℕ, List, arith, sym, subst}
use Rattle.elasticlunr_trie.specs.Table.{Table}
use Rattle.elasticlunr_store.specs.Contents.{Contents}
use Rattle.serde_json.specs.Data.{Data, depth}
use Rattle.elasticlunr_commands.specs.History.{Commands, Agree}
use Rattle.elasticlunr_commands.specs.Standing.{Plan, Holds}
use Rattle.elasticlunr_commands.proofs.Agreeing.{holds_agreed}
use Rattle.elasticlunr_print.specs.Printed.{IsValue, IsValueOf, IsIndexValue, IsValueOfNoOther, IsTextOf}
use Rattle.elasticlunr_print.specs.Printed.{IsTextOfNoOther, IsTextAfter, IsReadAfter, IsReadAs, IsPrintOf, PrintAlike}

module _ (plan : Plan) (tables : List Table) (contents : Contents) where
  -- the value of an index is that after the commands it holds, and after all that agree with them
  pub value_after : (commands other : Commands) (value : Data) → Holds plan commands tables contents
      → Agree commands other → IsIndexValue plan tables contents value → IsValue plan other value
  value_after commands other value holds agree is =
      record {
        tables = tables;
        contents = contents;
        holds = holds_agreed commands other plan tables contents agree
            holds;
        printed = is.printed;
      }

  module _ (text_of : Data → List ℕ) (text : List ℕ) (is : IsTextOf text_of plan tables contents text) where
    pub text_after : (commands other : Commands) → Holds plan commands tables contents → Agree commands other
        → IsTextAfter text_of plan other text
    text_after commands other holds agree = (
      is.value,
      value_after commands other is.value holds agree is.of_index,
      is.written,
    )

    -- one value comes after commands
    pub read_after : ((p : Plan) (c : Commands) (v w : Data) → IsValue p c v → IsValue p c w → v ≡ w)
        → (commands other : Commands) → Holds plan commands tables contents → Agree commands other
        → IsReadAfter plan other text
    read_after one commands other holds agree v after = subst (IsReadAs text)
        (one plan other is.value v (value_after commands other is.value holds agree is.of_index) after) is.read_as

    -- the value of an index is that of no other
    pub text_of_no_other : (IsIndexValue plan tables contents is.value → IsValueOfNoOther plan tables contents is.value)
        → IsTextOfNoOther plan tables contents text
    text_of_no_other only limit v reads = subst (IsValueOfNoOther plan tables contents)
        (sym (is.read_as.no_other_within limit v reads)) (only is.of_index)

    pub print_of : (commands : Commands) → Holds plan commands tables contents → IsPrintOf plan commands text
    print_of commands holds = record {
      tables = tables;
      contents = contents;
      value = is.value;
      differ = is.of_index.differ;
      holds = holds;
      are_tables = is.of_index.are_tables;
      printed = is.of_index.printed;
      read_as = is.read_as;
    }

    -- one text is printed of equal parts
    pub parts_of_text : ((value : Data) → IsIndexValue plan tables contents value
        → IsValueOfNoOther plan tables contents value)
        → (other_text : Data → List ℕ) (other : Plan) (others : List Table) (kept : Contents)
        → IsTextOf other_text other others kept text
        → PrintAlike plan other × (tables ≡ others) × (contents ≡ kept)
    parts_of_text only other_text other others kept also =
        let same : also.value ≡ is.value = is.read_as.no_other_within (depth also.value) also.value
        (also.read_as.reads_within (depth also.value) (omega arith)) in
        only is.value is.of_index other others kept also.of_index.one_each also.of_index.are_tables
        (subst (IsValueOf other others kept) same also.of_index.printed)
