use Rattle.elasticlunr_search.proofs.searcher.Searcher.find_joined.Goals as goal

pub returns-in-Any-clause-no_field : goal.returns-in-Any-clause-no_field
returns-in-Any-clause-no_field g c = c.find_in.ensures.no_field

pub returns-in-Any-clause-has_fields : goal.returns-in-Any-clause-has_fields
returns-in-Any-clause-has_fields g c = c.find_in.ensures.has_fields

pub returns-in-Any-clause-errors : goal.returns-in-Any-clause-errors
returns-in-Any-clause-errors g c = c.find_in.ensures.errors

pub returns-in-Any-clause-found : goal.returns-in-Any-clause-found
returns-in-Any-clause-found g c = let has = rw c.in-Any.is at c.find_in.ensures.found in rw c.in-Any.is has

pub returns-in-Any-clause-in_tries : goal.returns-in-Any-clause-in_tries
returns-in-Any-clause-in_tries g c = let has = rw c.in-Any.is at c.find_in.ensures.in_tries in rw c.in-Any.is has

pub returns-in-All-clause-no_field : goal.returns-in-All-clause-no_field
returns-in-All-clause-no_field g c = c.find_across.ensures.no_field

pub returns-in-All-clause-has_fields : goal.returns-in-All-clause-has_fields
returns-in-All-clause-has_fields g c = c.find_across.ensures.has_fields

pub returns-in-All-clause-errors : goal.returns-in-All-clause-errors
returns-in-All-clause-errors g c = c.find_across.ensures.errors

pub returns-in-All-clause-found : goal.returns-in-All-clause-found
returns-in-All-clause-found g c = rw c.in-All.is c.find_across.ensures.found

pub returns-in-All-clause-in_tries : goal.returns-in-All-clause-in_tries
returns-in-All-clause-in_tries g c = rw c.in-All.is c.find_across.ensures.in_tries
