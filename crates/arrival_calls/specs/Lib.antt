pub mod ArrivalCalls
