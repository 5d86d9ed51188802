use Rattle.elasticlunr_lang.proofs.KnownLemmas.{language_stages-class, language_leaves-class}
use Rattle.std.proofs.Common.{rules}
use Rattle.elasticlunr_lang.proofs.any.AnyLanguageLanguage.make_pipeline.Goals as goal

pub returns-in-English-clause-leaves : goal.returns-in-English-clause-leaves
returns-in-English-clause-leaves g c =
    rw c.in-English.is (rw (c.stop_words-stop_words.ensures, c.in-English.is) at c.english_pipeline.ensures.leaves)

pub returns-in-Arabic-clause-leaves : goal.returns-in-Arabic-clause-leaves
returns-in-Arabic-clause-leaves g c = rw c.in-Arabic.is c.arabic_pipeline.ensures.leaves

pub returns-in-Korean-clause-leaves : goal.returns-in-Korean-clause-leaves
returns-in-Korean-clause-leaves g c =
    rw c.in-Korean.is
    (rw (c.scripts.ensures, c.stop_words-stop_words.ensures, c.in-Korean.is) at
    c.class_and_keep_pipeline.ensures.leaves)

pub returns-in_default : goal.returns-in_default
returns-in_default g c =
    record {
      names =
          rw (
            language_stages-class c.args.self.now c.in_default.not-English c.in_default.not-Arabic
                c.in_default.not-Korean,
            ← c.as_code-in_default.ensures,
          )
          c.class_pipeline.ensures.names;
      leaves =
          rw (
            language_leaves-class c.args.self.now c.in_default.not-English c.in_default.not-Arabic,
            ← c.scripts-in_default.ensures,
            ← c.stop_words-stop_words.ensures,
          )
          c.class_pipeline.ensures.leaves;
      known = c.class_pipeline.ensures.known;
    }

pub returns-in-English-clause-names : goal.returns-in-English-clause-names
returns-in-English-clause-names g c = search rules

pub returns-in-English-clause-known : goal.returns-in-English-clause-known
returns-in-English-clause-known g c = search rules

pub returns-in-Arabic-clause-names : goal.returns-in-Arabic-clause-names
returns-in-Arabic-clause-names g c = search rules

pub returns-in-Arabic-clause-known : goal.returns-in-Arabic-clause-known
returns-in-Arabic-clause-known g c = search rules

pub returns-in-Korean-clause-names : goal.returns-in-Korean-clause-names
returns-in-Korean-clause-names g c = search rules

pub returns-in-Korean-clause-known : goal.returns-in-Korean-clause-known
returns-in-Korean-clause-known g c = search rules
