-- The faults of requests, apart from memory that ran out.
use Rattle.std.specs.Prelude.{Option, Some, None, option_map}
use Rattle.doc.specs.Fault as doc
use Rattle.query.specs.Fault as query
use Rattle.wire.specs.Fault as head
use Rattle.front.specs.declared.request_fault.RequestFault.{RequestFault}
use Rattle.front.specs.declared.target.Endpoint.{Endpoint}
use Rattle.front.specs.declared.request_fault.RequestFault.TheVariants.{Head, NoRoute, NoIndex, BadMethod, BadParameter, BadBulk, ForeignOrigin, ForeignHost, TypeInPath, NoHandler, IndexExists, EncodedBody, Document, Query, NoMemory}

pub data Fault : Type 0 where
  of_head : head.Fault → Fault
  no_route : Fault
  no_index : Fault
  -- the path doesn't take the method
  bad_method : Endpoint → Fault
  bad_parameter : Fault
  bad_bulk : Fault
  -- the request comes from a page of another origin
  foreign_origin : Fault
  -- the server isn't known under the name
  foreign_host : Fault
  -- an endpoint follows a type, as older client libraries write it
  type_in_path : Fault
  -- no endpoint has the path, by a server that greets
  no_handler : Fault
  -- the index that is to be made is served, by a server that greets
  index_exists : Fault
  -- the body has a coding, by a server that greets
  encoded_body : Fault
  of_document : doc.Fault → Fault
  of_query : query.Fault → Fault

-- the fault of a request; nothing if memory ran out
abbrev pub fault_of : RequestFault → Option Fault
fault_of (Head f) = option_map of_head (head.fault_of f)
fault_of NoRoute = Some no_route
fault_of NoIndex = Some no_index
fault_of (BadMethod k) = Some (bad_method k)
fault_of BadParameter = Some bad_parameter
fault_of BadBulk = Some bad_bulk
fault_of ForeignOrigin = Some foreign_origin
fault_of ForeignHost = Some foreign_host
fault_of TypeInPath = Some type_in_path
fault_of NoHandler = Some no_handler
fault_of IndexExists = Some index_exists
fault_of EncodedBody = Some encoded_body
fault_of (Document f) = option_map of_document (doc.fault_of f)
fault_of (Query f) = option_map of_query (query.fault_of f)
fault_of NoMemory = None
