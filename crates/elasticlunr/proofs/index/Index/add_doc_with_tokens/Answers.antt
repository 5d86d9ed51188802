use Rattle.std.proofs.Common.{◌≡◌, ◌<◌, ◌≤◌, Bor, length, map, Err, inl, inr, sym, refl, ap, subst, ◌∙◌}
use Rattle.std.specs.Prelude.{vec_len}
use Rattle.elasticlunr_text.specs.IndexError.TheVariants.{Memory}
use Rattle.elasticlunr_text.specs.Text.{Bytes, bytes_of}
use Rattle.elasticlunr.specs.GivenTokens.{value_texts}
use Rattle.elasticlunr.proofs.Documents.{document_of, is_made_of}
use Rattle.elasticlunr.proofs.GivenTokens.{as_many_texts, is_document_with}
use Rattle.elasticlunr.proofs.Holding.{held}
use Rattle.elasticlunr.proofs.Failing.{not_none, none_there, of_same, few_enough, too_many_for, memory_too_many}
use Rattle.elasticlunr.proofs.Failing.{memory_failed, memory_fails, memory_unchanged, memory_errors, memory_ok}
use Rattle.elasticlunr.proofs.Failing.{passed_on}
use Rattle.elasticlunr.proofs.index.Index.add_doc_with_tokens.Goals as goal

pub returns-clause-added : goal.returns-clause-added
returns-clause-added g c =
    let texts = c.deref-2.result.now in
    let same : map (λ t. t.now) texts ≡ value_texts c.args.values.now = ap (map (λ (t : Bor Bytes). t.now))
    c.deref-2.ensures.value ∙ c.in_ok-texts.ensures in
    let as_many : length c.in_ok-tokens.tokens.items ≡ length texts = sym c.in_ok-tokens.tokens.ok.0
    ∙ c.in_ok-tokens.ensures.as_many ∙ sym (as_many_texts c.args.values.now texts same) in (
      document_of c.args.doc_ref.now texts c.in_ok-tokens.tokens.items,
      is_document_with _ _ _ _ c.args.doc_ref.now c.args.values.now texts c.in_ok-tokens.tokens.items same as_many
          c.in_ok-tokens.ensures.each,
      λ commands stands.
          c.in_ok-add_document.ensures.entered _
          (document_of c.args.doc_ref.now texts c.in_ok-tokens.tokens.items) commands
          (ap bytes_of (sym c.deref.ensures.value)) c.args.self.now.settings.distinct (sym c.as_str.ensures.value)
          (is_made_of c.args.doc_ref.now texts c.in_ok-tokens.tokens.items as_many)
          (held _ _ _ commands (sym c.take.ensures.value ∙ c.in-Some.is) stands),
    )

pub returns-then-len-values-clause-unchanged : goal.returns-then-len-values-clause-unchanged
returns-then-len-values-clause-unchanged g c = λ _. record {
  settings = refl;
  contents = sym c.in-Some.is
      ∙ c.take.ensures.value;
}

pub returns-in_default-clause-failed : goal.returns-in_default-clause-failed
returns-in_default-clause-failed g c = (λ _. none_there _ (sym c.take.ensures.value ∙ c.in_default.is), λ _. refl)

pub returns-in_default-clause-fails : goal.returns-in_default-clause-fails
returns-in_default-clause-fails g c = (λ _. inl refl, λ _. none_there _ c.take.ensures.after)

pub returns-in_default-clause-errors : goal.returns-in_default-clause-errors
returns-in_default-clause-errors g c = inl refl

pub returns-then-len-values-clause-errors : goal.returns-then-len-values-clause-errors
returns-then-len-values-clause-errors g c = inr (inl refl)

pub returns-then-len-values-clause-failed : goal.returns-then-len-values-clause-failed
returns-then-len-values-clause-failed g c =
    (λ failed. absurd (cc (failed)), λ none. absurd (not_none _ _ (sym c.take.ensures.value ∙ c.in-Some.is) none))

pub returns-clause-failed : goal.returns-clause-failed
returns-clause-failed g c = (
  λ failed. absurd (cc (failed)),
  λ none. absurd (not_none _ _ (sym c.take.ensures.value ∙ c.in-Some.is) none),
)

pub returns-in_default-clause-settings : goal.returns-in_default-clause-settings
returns-in_default-clause-settings g c = refl

pub returns-then-len-values-clause-settings : goal.returns-then-len-values-clause-settings
returns-then-len-values-clause-settings g c = refl

pub returns-clause-settings : goal.returns-clause-settings
returns-clause-settings g c = refl

pub returns-clause-too_many : goal.returns-clause-too_many
returns-clause-too_many g c = (
  λ many. absurd (cc (many)),
  λ both. absurd (few_enough c.args.self.now.settings.fields.items c.args.self.now.settings.fields.len _
      (sym c.args.self.now.settings.fields.ok.0) (subst (λ n. length c.args.values.now ≤ n) c.len.ensures
      c.if-len-values.false) both.1),
)

pub returns-then-len-values-clause-too_many : goal.returns-then-len-values-clause-too_many
returns-then-len-values-clause-too_many g c = (
  λ _. (
    not_none _ _ (sym c.take.ensures.value ∙ c.in-Some.is),
    too_many_for c.args.self.now.settings.fields.items
        c.args.self.now.settings.fields.len _ (sym c.args.self.now.settings.fields.ok.0)
        (subst (λ n. n < length c.args.values.now) c.len.ensures c.if-len-values.true),
  ),
  λ _. refl,
)

pub returns-in_default-clause-too_many : goal.returns-in_default-clause-too_many
returns-in_default-clause-too_many g c = (
  λ many. absurd (cc (many)),
  λ both. absurd (both.0 (none_there _ (sym c.take.ensures.value ∙ c.in_default.is))),
)

pub invariant_of-self : goal.invariant_of-self
invariant_of-self g c = record { one_each = λ x some. absurd (cc (c.take.ensures.after, some)) }

pub invariant_of-self-then-len-values : goal.invariant_of-self-then-len-values
invariant_of-self-then-len-values g c = record
    { one_each = λ x same. c.args.self.now.one_each x (sym c.take.ensures.value ∙ (c.in-Some.is ∙ same)) }

pub invariant_of-self-2 : goal.invariant_of-self-2
invariant_of-self-2 g c = record {
  one_each = λ x same. of_same (λ k. vec_len k.tries
      ≡ vec_len c.args.self.now.settings.fields) _ x same (c.in_ok-add_document.ensures.as_many
      ∙ c.args.self.now.one_each _ (sym c.take.ensures.value ∙ c.in-Some.is));
}

pub returns-in_err-tokens : goal.returns-in_err-tokens
returns-in_err-tokens g c =
    let memory = passed_on c.from_residual.result Memory c.from_residual.ensures.1 in record {
      failed = memory_failed _ _ _ memory (sym c.take.ensures.value ∙ c.in-Some.is);
      fails = memory_fails _ _ memory c.take.ensures.after;
      unchanged = memory_unchanged _ memory;
      errors = memory_errors _ memory;
      added = memory_ok _ _ memory;
      settings = refl;
      too_many = memory_too_many _ memory (few_enough c.args.self.now.settings.fields.items
          c.args.self.now.settings.fields.len _ (sym c.args.self.now.settings.fields.ok.0)
          (subst (λ n. length c.args.values.now ≤ n) c.len.ensures c.if-len-values.false));
    }

pub returns-in_err-texts : goal.returns-in_err-texts
returns-in_err-texts g c =
    let memory = passed_on c.from_residual-in_err-texts.result Memory c.from_residual-in_err-texts.ensures.1 in record {
      failed = memory_failed _ _ _ memory (sym c.take.ensures.value ∙ c.in-Some.is);
      fails = memory_fails _ _ memory c.take.ensures.after;
      unchanged = memory_unchanged _ memory;
      errors = memory_errors _ memory;
      added = memory_ok _ _ memory;
      settings = refl;
      too_many = memory_too_many _ memory (few_enough c.args.self.now.settings.fields.items
          c.args.self.now.settings.fields.len _ (sym c.args.self.now.settings.fields.ok.0)
          (subst (λ n. length c.args.values.now ≤ n) c.len.ensures c.if-len-values.false));
    }

pub returns-in_err-add_document : goal.returns-in_err-add_document
returns-in_err-add_document g c =
    let memory : c.from_residual-in_err-add_document.result
    ≡ Err Memory = passed_on c.from_residual-in_err-add_document.result c.in_err-add_document.field-0.0
    c.from_residual-in_err-add_document.ensures.1 ∙ ap Err c.in_err-add_document.ensures.memory in record {
      failed = memory_failed _ _ _ memory (sym c.take.ensures.value ∙ c.in-Some.is);
      fails = memory_fails _ _ memory c.take.ensures.after;
      unchanged = memory_unchanged _ memory;
      errors = memory_errors _ memory;
      added = memory_ok _ _ memory;
      settings = refl;
      too_many = memory_too_many _ memory (few_enough c.args.self.now.settings.fields.items
          c.args.self.now.settings.fields.len _ (sym c.args.self.now.settings.fields.ok.0)
          (subst (λ n. length c.args.values.now ≤ n) c.len.ensures c.if-len-values.false));
    }
