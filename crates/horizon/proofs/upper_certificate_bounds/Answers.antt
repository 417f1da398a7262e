use Rattle.horizon.proofs.UpperCertificates.{bound_of_upper_certificate}
use Rattle.horizon.proofs.upper_certificate_bounds.Goals as goal

pub returns-clause-theorem : goal.returns-clause-theorem
returns-clause-theorem c = bound_of_upper_certificate
