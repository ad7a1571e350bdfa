-- What the code is given to appraise by.
use Rattle.appraiser.specs.declared.expecting.Given.{Given}
use Rattle.appraiser.specs.Appraised.{basis_of}
use Rattle.appraiser.specs.Expected.{Basis}

abbrev pub basis_in : Given → Basis
basis_in given = basis_of given.places.now given.references.now given.nonce.now
