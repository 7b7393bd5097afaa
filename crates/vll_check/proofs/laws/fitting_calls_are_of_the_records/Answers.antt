use Rattle.vll_check.proofs.Fitting.{are_found, fits_within, found_without, found_bare}
use Rattle.vll_check.proofs.laws.fitting_calls_are_of_the_records.Goals as goal

pub returns-clause-within : goal.returns-clause-within
returns-clause-within c = fits_within

pub returns-clause-alone : goal.returns-clause-alone
returns-clause-alone c = found_without

pub returns-clause-found : goal.returns-clause-found
returns-clause-found c = found_bare

pub returns-clause-like : goal.returns-clause-like
returns-clause-like c = are_found
