-- Steps that leave what other references have.
use Rattle.std.proofs.Common.{◌≡◌, ◌≢◌, ℕ, ◌<◌, Bool, true, false, inl, IsTrue, List, [], ◌∷◌, length, length-set, take}
use Rattle.std.proofs.Common.{cond, Some, None, Result, Ok, Err, OnOk, OnErr, bytes_eq, nat_eq, true≢false, refl, sym}
use Rattle.std.proofs.Common.{ap, subst, ◌∙◌}
use Rattle.std.proofs.Math.ListN.{set}
use Rattle.std.specs.List.{slice_get}
use Rattle.std.specs.FinMap.{get, empty}
use Rattle.std.proofs.lemmas.List.{take-map}
use Rattle.std.proofs.lemmas.Bool.{eqb-true, eq-eqb}
use Rattle.elasticlunr_error.specs.Text.{Text, Bytes}
use Rattle.elasticlunr_trie.specs.Table.{Table, add, IsChanged, AreChanged, additions}
use Rattle.elasticlunr_trie.specs.Begun.{AreBegun}
use Rattle.elasticlunr_store.specs.Contents.{Contents, TextMap, length_at, with_document, with_length, without}
use Rattle.elasticlunr_commands.specs.Entered.{TakesOut}
use Rattle.elasticlunr_commands.proofs.Adding.{same, both_some}
use Rattle.elasticlunr_state.specs.Others.{OthersStayIn, OthersStay}
use Rattle.elasticlunr_state.proofs.Entering.{some_from, is_some_from}
use Rattle.elasticlunr_state.proofs.Pairing.{set_here, set_elsewhere}
use Rattle.elasticlunr_state.proofs.Removing.{EachTo}
use Rattle.elasticlunr_state.proofs.Storing.{found_after_insert, found_after_remove, length_after, length_without}

-- what follows from success and from an error
pub either_way : {T E : Type 0} {P Q R : Type 0} (r : Result T E) → (P → R) → (Q → R) → OnOk r P → OnErr r Q → R
either_way (Ok x) f g p q = f p
either_way (Err e) f g p q = g q

-- a table that is the same
same_table : (r : Bytes) (old new : Table) → new ≡ old → OthersStayIn r old new
same_table r old new is = subst (OthersStayIn r old) (sym is)
    (record { postings = λ token other differs. refl; known = λ text k. k })

-- a posting that is added is the reference's own
one_added : (r : Bytes) (t : Text) (n : ℕ) (old new : Table) → IsChanged (add t r n) old new → OthersStayIn r old new
one_added r [] n old new change = same_table r old new (change.1 refl)
one_added r (x ∷ t) n old new change =
    let added = change.0 (λ e. cc (e)) in
    record {
      postings = λ token other differs. added.others token other (λ both. differs both.1);
      known =
          λ text k. (added.known text).1 (inl k);
    }

-- the same of two tables, one after the other
on_table : (r : Bytes) (old mid new : Table) → OthersStayIn r old mid → OthersStayIn r mid new → OthersStayIn r old new
on_table r old mid new first then = record {
  postings = λ token other differs. then.postings token other differs ∙ first.postings token other differs;
  known = λ text k. then.known text (first.known text k);
}

-- the same of several postings, and of the first of them
pub all_added : (r : Bytes) (tokens : List (Text × ℕ)) (old new : Table) → AreChanged (additions r tokens) old new
    → OthersStayIn r old new
all_added r [] old new change = same_table r old new change
all_added r (t ∷ tokens) old new change = on_table r old change.0 new (one_added r t.0 t.1 old change.0 change.1)
    (all_added r tokens change.0 new change.2)

pub some_added : (r : Bytes) (tokens : List (Text × ℕ)) (old new : Table) → AreBegun (additions r tokens) old new
    → OthersStayIn r old new
some_added r tokens old new begun = all_added r (take begun.0 tokens) old new
    (subst (λ changes. AreChanged changes old new) (take-map _ begun.0 tokens) begun.1)

-- the names of different references
told_apart : (q r : Bytes) → q ≢ r → bytes_eq q r ≡ false
told_apart q r differs = by_test (bytes_eq q r) refl where
  by_test : (b : Bool) → bytes_eq q r ≡ b → b ≡ false
  by_test true e = absurd (differs (same q r e))
  by_test false e = refl

-- nothing changes
pub stay : (r : Bytes) (tables : List Table) (contents : Contents) → OthersStay r tables tables contents contents
stay r tables contents = record {
  as_many = refl;
  tables = λ i before after eb ea. same_table r before after (cc (eb, ea));
  save = refl;
  texts = λ other differs. refl;
  lengths = λ other field differs. refl;
}

-- one change after the other
pub stay_on : (r : Bytes) (old_tables mid_tables new_tables : List Table) (old mid new : Contents)
    → OthersStay r old_tables mid_tables old mid → OthersStay r mid_tables new_tables mid new
    → OthersStay r old_tables new_tables old new
stay_on r old_tables mid_tables new_tables old mid new first then = record {
  as_many = then.as_many ∙ first.as_many;
  tables = λ i before after eb ea.
      let between = some_from (slice_get mid_tables i)
      (both_some mid_tables old_tables i first.as_many (is_some_from _ before eb)) in
      on_table r before between.0 after (first.tables i before between.0 eb between.1)
      (then.tables i between.0 after between.1 ea);
  save = then.save ∙ first.save;
  texts = λ other differs. then.texts other differs ∙ first.texts other differs;
  lengths = λ other field differs. then.lengths other field differs ∙ first.lengths other field differs;
}

-- one table is set
pub stay_set : (r : Bytes) (tables : List Table) (k : ℕ) (old new : Table) (contents : Contents) → k < length tables
    → slice_get tables k ≡ Some old → OthersStayIn r old new → OthersStay r tables (set tables k new) contents
    contents
stay_set r tables k old new contents inside is one = record {
  as_many = length-set tables k new;
  tables = λ i before after eb ea. by_place i before after eb ea (nat_eq i k) refl;
  save = refl;
  texts = λ other differs. refl;
  lengths = λ other field differs. refl;
} where
  by_place : (i : ℕ) (before after : Table) → slice_get tables i ≡ Some before → slice_get (set tables k new) i
      ≡ Some after → (b : Bool) → nat_eq i k ≡ b → OthersStayIn r before after
  by_place i before after eb ea true e =
      let at = eqb-true i k e in
      let was : old ≡ before = cc (is, eb, at) in
      let becomes : new ≡ after = cc (set_here tables k new inside, ea, at) in
      subst (λ T. OthersStayIn r T after) was (subst (OthersStayIn r old) becomes one)
  by_place i before after eb ea false e =
      same_table r before after (cc (eb, set_elsewhere tables k i new (λ at. true≢false (sym (eq-eqb i k at) ∙ e)), ea))

-- a length is set
pub stay_length : (r : Bytes) (tables : List Table) (contents : Contents) (field : Bytes) (n : ℕ)
    → OthersStay r tables tables contents (with_length contents r field n)
stay_length r tables contents field n = record {
  as_many = refl;
  tables = (stay r tables contents).tables;
  save = refl;
  texts = λ other differs. refl;
  lengths = λ other f differs. length_after contents r field n other f
      ∙ ap (λ b. cond b (cond (bytes_eq f field) (Some n) (length_at contents r f)) (length_at contents other f))
      (told_apart other r differs);
}

-- texts are put in
pub stay_document : (r : Bytes) (tables : List Table) (contents : Contents) (texts : TextMap)
    → OthersStay r tables tables contents (with_document contents r texts)
stay_document r tables contents texts = record {
  as_many = refl;
  tables = (stay r tables contents).tables;
  save = refl;
  texts = λ other differs. found_after_insert contents.texts r stored other
      ∙ ap (λ b. cond b (Some stored) (get contents.texts other)) (told_apart other r differs);
  lengths = λ other field differs. refl;
} where
  stored : TextMap
  stored = cond contents.save texts empty

-- what the reference had is taken out
pub stay_without : (r : Bytes) (old_tables new_tables : List Table) (contents : Contents) → length new_tables
    ≡ length old_tables → EachTo (λ before after. TakesOut before after r) old_tables new_tables
    → OthersStay r old_tables new_tables contents (without contents r)
stay_without r old_tables new_tables contents many each = record {
  as_many = many;
  tables = λ i before after eb ea. let out = each i before after eb ea in record
      { postings = out.others; known = λ text k. subst IsTrue (sym (out.known text)) k };
  save = refl;
  texts = λ other differs. found_after_remove contents.texts r other ∙ ap (λ b. cond b None (get contents.texts other))
      (told_apart other r differs);
  lengths = λ other field differs. length_without contents r other field
      ∙ ap (λ b. cond b None (length_at contents other field)) (told_apart other r differs);
}
