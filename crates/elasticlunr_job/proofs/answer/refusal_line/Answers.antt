use Rattle.std.proofs.Common.{rules}
use Rattle.elasticlunr_job.proofs.answer.refusal_line.Goals as goal

pub returns-in-NotJson : goal.returns-in-NotJson
returns-in-NotJson c = search rules

pub returns-in-NotAJob : goal.returns-in-NotAJob
returns-in-NotAJob c = search rules

pub returns-in-UnknownLanguage : goal.returns-in-UnknownLanguage
returns-in-UnknownLanguage c = search rules

pub returns-in-DuplicateField : goal.returns-in-DuplicateField
returns-in-DuplicateField c = search rules

pub returns-in-TooManyValues : goal.returns-in-TooManyValues
returns-in-TooManyValues c = search rules
