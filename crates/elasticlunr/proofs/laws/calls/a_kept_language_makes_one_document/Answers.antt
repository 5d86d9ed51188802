use Rattle.elasticlunr_lang.specs.Words.{words}
use Rattle.elasticlunr.proofs.Calling.{one_document, one_language_reading}
use Rattle.elasticlunr.proofs.laws.calls.a_kept_language_makes_one_document.Goals as goal

pub returns-clause-reading : goal.returns-clause-reading
returns-clause-reading c = one_language_reading words c.each_word_has_one_stem.ensures

pub returns-clause-document : goal.returns-clause-document
returns-clause-document c = λ language fields reference_field. one_document fields reference_field _
    (one_language_reading words c.each_word_has_one_stem.ensures language)
