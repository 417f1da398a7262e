use Rattle.horizon.proofs.LowerCertificates.{bound_of_lower_certificate}
use Rattle.horizon.proofs.lower_certificate_bounds.Goals as goal

pub returns-clause-theorem : goal.returns-clause-theorem
returns-clause-theorem c = bound_of_lower_certificate
