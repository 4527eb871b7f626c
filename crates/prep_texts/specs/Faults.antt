-- Faults of tokens as faults of texts.
use Rattle.pl_tokens.specs.declared.token.TokenFault.{TokenFault}
use Rattle.pl_tokens.specs.declared.token.TokenFault.TheVariants.{Fault as TokenFaultOf, NoMemory as NoTokenMemory}
use Rattle.prep_texts.specs.declared.fault.PrepFault.{PrepFault}
use Rattle.prep_texts.specs.declared.fault.PrepFault.TheVariants.{Fault, NoMemory}

abbrev pub token_fault : TokenFault → PrepFault
token_fault (TokenFaultOf n byte) = Fault n byte
token_fault NoTokenMemory = NoMemory
