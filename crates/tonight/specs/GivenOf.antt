-- What an evening was given. It stands apart, since the struct's ghost fields cite Evening.antt, and that Given.antt.
use Rattle.tonight.specs.declared.evening.Evening.{Evening}
use Rattle.tonight.specs.Given.{Given}

abbrev pub given_of : Evening → Given
given_of e = record { prices = e.prices.now }
