use Rattle.std.proofs.Common.{◌≡◌, ◌∷◌, ◌++◌, ◌||◌, bytes_eq, map, string_bytes, sym, ap, ◌∙◌}
use Rattle.elasticlunr_text.specs.Text.{Bytes, is_listed}
use Rattle.elasticlunr_input.specs.Noted.{new_keys}
use Rattle.elasticlunr_input.specs.Warnings.{is_known, unindexed_text, unindexed_warnings, warnings_of}
use Rattle.elasticlunr_input.proofs.FieldKeys.{keys_left, other_left, text_left}
use Rattle.elasticlunr_input.proofs.Noting.{key_more, known_more, same_words}
use Rattle.std.proofs.Common.{rules}
use Rattle.elasticlunr_input.proofs.notes.Notes.members.Goals as goal

pub loop-key-preserved-then-not-is_string : goal.loop-key-preserved-then-not-is_string
loop-key-preserved-then-not-is_string c =
    let so_far = c.loop-key.invariant in
    let mid = c.loop-key.self in
    let step : c.loop-key.key-iterator ≡ (c.in-Some-2.key.now, c.in-Some-2.member.now) ∷ c.next.new.self =
    cc (c.in-Some-2.ensures.steps) in
    let keys = ap keys_left step ∙ other_left (c.in-Some-2.key.now, c.in-Some-2.member.now) c.next.new.self
    (sym c.is_string.ensures ∙ c.if-not-is_string.true) in
    record {
      warnings = ap (λ ks. warnings_of mid ++ map (unindexed_text c.args.self.now.taken c.args.reference.now)
          (new_keys (is_known mid) ks)) (sym keys) ∙ so_far.warnings;
      known = λ k. ap (λ ks. is_known mid k || is_listed k ks) (sym keys) ∙ so_far.known k;
      references = so_far.references;
      taken = so_far.taken;
      words = so_far.words;
    }

pub loop-key-preserved : goal.loop-key-preserved
loop-key-preserved c =
    let so_far = c.loop-key.invariant in
    let old = c.args.self.now in
    let mid = c.loop-key.self in
    let new = c.text_under.new.self in
    let reference = c.args.reference.now in
    let key = string_bytes c.in-Some-2.key.now in
    let rest = keys_left c.next.new.self in
    let name = c.as_str-name.ensures.value in
    let step : c.loop-key.key-iterator ≡ (c.in-Some-2.key.now, c.in-Some-2.member.now) ∷ c.next.new.self =
    cc (c.in-Some-2.ensures.steps) in
    let keys = ap keys_left step ∙ text_left (c.in-Some-2.key.now, c.in-Some-2.member.now) c.next.new.self
    (sym c.is_string.ensures ∙ c.if-not-is_string.false) in
    let said : warnings_of new ≡ warnings_of mid ++ unindexed_warnings (is_known mid key) old.taken reference key =
    c.in_ok-text_under.ensures.warnings
    ∙ ap (λ (k : Bytes). warnings_of mid ++ unindexed_warnings (is_known mid k) mid.taken reference k) name
    ∙ ap (λ n. warnings_of mid ++ unindexed_warnings (is_known mid key) n reference key) so_far.taken in
    let same = λ (k : Bytes). c.in_ok-text_under.ensures.known k ∙ ap (λ n. is_known mid k || bytes_eq n k) name in
    record {
      warnings = ap (λ ws. ws ++ map (unindexed_text old.taken reference) (new_keys (is_known new) rest)) said
          ∙ (key_more (is_known mid) (is_known new) old.taken reference key rest (warnings_of mid) same
          ∙ (ap (λ ks. warnings_of mid ++ map (unindexed_text old.taken reference) (new_keys (is_known mid) ks))
          (sym keys) ∙ so_far.warnings));
      known = λ k. known_more (is_known mid) (is_known new) key rest k (same k)
          ∙ (ap (λ ks. is_known mid k || is_listed k ks) (sym keys) ∙ so_far.known k);
      references = c.text_under.ensures.references ∙ so_far.references;
      taken = c.text_under.ensures.taken ∙ so_far.taken;
      words = same_words old mid new so_far.words c.text_under.ensures.words;
    }

pub returns-in_default-clause-warnings : goal.returns-in_default-clause-warnings
returns-in_default-clause-warnings c = search rules

pub returns-in_default-clause-known : goal.returns-in_default-clause-known
returns-in_default-clause-known c = search rules

pub returns-in_default-clause-taken : goal.returns-in_default-clause-taken
returns-in_default-clause-taken c = search rules

pub returns-in_default-clause-references : goal.returns-in_default-clause-references
returns-in_default-clause-references c = search rules

pub returns-in_default-clause-words : goal.returns-in_default-clause-words
returns-in_default-clause-words c = search rules

pub loop-key-init : goal.loop-key-init
loop-key-init c = search rules

pub returns-clause-warnings : goal.returns-clause-warnings
returns-clause-warnings c = search rules

pub returns-clause-known : goal.returns-clause-known
returns-clause-known c = search rules

pub returns-clause-taken : goal.returns-clause-taken
returns-clause-taken c = search rules

pub returns-clause-references : goal.returns-clause-references
returns-clause-references c = search rules

pub returns-clause-words : goal.returns-clause-words
returns-clause-words c = search rules
